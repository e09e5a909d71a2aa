use Rattle.std.proofs.Common.{arith}
use Rattle.std.proofs.lemmas.Result.{IfOk-weaker}
use Rattle.column_runs.specs.Close.{least_misses, EachMisses}
use Rattle.column_runs.specs.OnOne.{LieOnOne}
use Rattle.column_runs.proofs.Misses.{apart_misses}
use Rattle.block_decoder.proofs.Visits.{misses-some}
use Rattle.block_decoder.proofs.narrowing.Narrowing.list_points.Goals as goal

pub returns-clause-several : goal.returns-clause-several
returns-clause-several g c =
    let t = c.args.self.now.decoding.degree in
    let h = c.args.self.now.decoding.agreement in
    let points = c.args.points.now in
    let each : EachMisses (least_misses t h) points t = rw c.in_default.is at c.in_ok-list.ensures.far in
    let apart : ¬ LieOnOne points t = apart_misses (least_misses t h) points t (misses-some t h c.args.self.now.listed.redundant) each in
    IfOk-weaker c.column_list.result _ _ (λ list least several. least (omega (arith, several)) apart) c.column_list.ensures.least
