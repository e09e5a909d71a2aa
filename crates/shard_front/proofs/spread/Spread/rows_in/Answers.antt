use Rattle.std.proofs.Common.{ap, arith, subst}
use Rattle.shard_front.specs.Spread.{IsSpread, Spread}
use Rattle.shard_front.proofs.Spreads.{starts_within}
use Rattle.shard_front.proofs.spread.Spread.rows_in.Goals as goal

pub returns-clause-some : goal.returns-clause-some
returns-clause-some c =
    let is = subst IsSpread c.self.view_is c.self.invariant in
    let starts = starts_within c.args.self is c.args.place c.requires in
    let rows = ap (λ (s : Spread). s.rows) c.self.view_is in
    let shard = ap (λ (s : Spread). s.shard) c.self.view_is in
    omega (arith, starts, is.some, rows, shard, c.first_row.ensures, c.min.ensures)
