use Rattle.std.proofs.Common.{◌≡◌, ℕ, ◌<◌, length, slice_index}
use Rattle.gf256.specs.Field.{◌⊕◌}
use Rattle.row_workers.specs.Group.{block_gives}
use Rattle.row_workers.proofs.BlockSums.{quarters}
use Rattle.row_workers.proofs.group.add_quarters.Given as goal

abbrev pub invariant-loop-i : goal.invariant-loop-i
invariant-loop-i g l = (p : ℕ) → p < length l.fn.sums
    → slice_index l.sums p
    ≡ slice_index l.fn.sums p ⊕ quarters (block_gives g.row.N g.S.GroupSums.gives l.group p) l.from l.quarter l.i
