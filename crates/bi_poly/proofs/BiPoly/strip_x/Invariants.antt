use Rattle.std.proofs.Common.{map}
use Rattle.bi_poly.proofs.Strip.{IsStrippedBelow}
use Rattle.bi_poly.proofs.BiPoly.strip_x.Given as goal

abbrev pub invariant-loop-row : goal.invariant-loop-row
invariant-loop-row l = IsStrippedBelow l.order l.row-index (map (λ r. r.items) l.row-items) (map (λ r. r.items) l.initial.row-items)
