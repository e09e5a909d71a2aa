use Rattle.std.proofs.Common.{◌≡◌, ℕ, ◌*◌, ◌≤◌, slice_index}
use Rattle.row_workers.specs.RowSums.{AddsSums}
use Rattle.row_workers.specs.Group.{group_gives}
use Rattle.row_workers.proofs.group.add_rest.Given as goal

abbrev pub invariant-loop-v : goal.invariant-loop-v
invariant-loop-v g l = record {
  done : AddsSums (group_gives g.S.GroupSums.gives l.group) (l.v * l.group.matrix.now.width) l.from l.to l.fn.sums l.sums;
  kept : (p : ℕ) → l.v * l.group.matrix.now.width ≤ p → slice_index l.sums p ≡ slice_index l.fn.sums p;
}
