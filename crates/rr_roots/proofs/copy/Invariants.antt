use Rattle.std.proofs.Common.{◌≡◌, map, take}
use Rattle.rr_roots.proofs.copy.Given as goal

abbrev pub invariant-loop-row : goal.invariant-loop-row
invariant-loop-row l = map (λ r. r.items) l.rows.items ≡ map (λ r. r.items) (take l.row-index l.row-items)
