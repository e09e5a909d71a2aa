use Rattle.std.proofs.Common.{◌≡◌, ◌+◌, ◌∙◌, ap, ap₂, arith}
use Rattle.gf256.specs.Sums.{run_sum}
use Rattle.row_workers.specs.Parts.{first_row}
use Rattle.row_workers.proofs.whole.SharedTask.run.Goals as goal

pub rows_of-from-requires-clause-rows : goal.rows_of-from-requires-clause-rows
rows_of-from-requires-clause-rows g c = c.rows.ensures.few

pub rows_of-from-requires-clause-few : goal.rows_of-from-requires-clause-few
rows_of-from-requires-clause-few g c = c.requires.0

pub rows_of-from-requires-clause-within : goal.rows_of-from-requires-clause-within
rows_of-from-requires-clause-within g c = c.requires.1

pub sum-requires-clause-ready : goal.sum-requires-clause-ready
sum-requires-clause-ready g c = c.requires.2

pub sum-requires-clause-order : goal.sum-requires-clause-order
sum-requires-clause-order g c = c.rows_of-from.ensures.order

pub sum-requires-clause-within : goal.sum-requires-clause-within
sum-requires-clause-within g c = omega (arith, c.rows_of-from.ensures.within, c.rows.ensures.is)

pub sum-requires-clause-room : goal.sum-requires-clause-room
sum-requires-clause-room g c = c.requires.3

pub returns : goal.returns
returns g c = λ p lt.
    let shared = c.args.self.now in
    let rows = g.S.RowSums.row_count shared.sums.now in
    let worker = c.args.worker in
    let from : c.rows_of-from.result.0 ≡ first_row rows shared.workers worker =
    c.rows_of-from.ensures.from ∙ ap (λ r. first_row r shared.workers worker) c.rows.ensures.is in
    let to : c.rows_of-from.result.1 ≡ first_row rows shared.workers (worker + 1) =
    c.rows_of-from.ensures.to ∙ ap (λ r. first_row r shared.workers (worker + 1)) c.rows.ensures.is in
    c.sum.ensures p lt ∙ ap₂ (run_sum (g.S.RowSums.gives shared.sums.now p)) from to
