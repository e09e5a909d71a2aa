use Rattle.std.proofs.Common.{◌≡◌, ℕ, ◌+◌, ◌*◌, ◌<◌, slice_index}
use Rattle.row_workers.specs.Blocks.{place_of}
use Rattle.row_workers.proofs.blocks.lay_out.Given as goal

abbrev pub invariant-loop-v : goal.invariant-loop-v
invariant-loop-v g l = (v c : ℕ) → v < l.v → c < l.width → slice_index l.sums (v * l.width + c) ≡ slice_index l.blocks (place_of g.row.N l.width l.count v c)
