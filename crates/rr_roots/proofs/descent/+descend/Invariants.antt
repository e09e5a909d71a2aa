use Rattle.std.proofs.Common.{◌≡◌, ◌+◌, ◌*◌, ◌-◌, ◌<◌, ◌≤◌, length, map}
use Rattle.bi_poly.specs.Rows.{column}
use Rattle.rr_roots.specs.Descent.{Appends, IsRootOfSize}
use Rattle.rr_roots.proofs.Levels.{HoldsBelow}
use Rattle.rr_roots.proofs.Multiplicities.{roots_below}
use Rattle.rr_roots.proofs.descent.+descend.Given as goal

abbrev pub decreases-descend : goal.decreases-descend
decreases-descend g l = l.t

abbrev pub invariant-roots : goal.invariant-roots
invariant-roots g l = record {
  within : l.from ≤ 256;
  kept : l.walk.prefix.items ≡ l.initial.walk.prefix.items;
  appends : Appends (HoldsBelow (IsRootOfSize l.fn.q (l.fn.t + 1)) l.from) l.initial.walk.prefix.items
      (map (λ r. r.items) l.initial.walk.roots.items) (map (λ r. r.items) l.walk.roots.items);
  most : l.nodes ≤ l.initial.nodes + (l.fn.t + 1) * roots_below (column l.node.q 0) l.from;
  least : length l.initial.walk.roots.items < length l.walk.roots.items → l.initial.nodes + (l.fn.t + 1) ≤ l.nodes;
  rises : l.initial.nodes ≤ l.nodes;
}

abbrev pub decreases-roots : goal.decreases-roots
decreases-roots g l = 257 - l.from
