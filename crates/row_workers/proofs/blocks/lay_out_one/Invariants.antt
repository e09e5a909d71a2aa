use Rattle.std.proofs.Common.{◌≡◌, ℕ, ◌<◌, slice_index}
use Rattle.row_workers.specs.Blocks.{place_of}
use Rattle.row_workers.proofs.blocks.lay_out_one.Given as goal

abbrev pub invariant-loop-c : goal.invariant-loop-c
invariant-loop-c g l = (c : ℕ) → c < l.c → slice_index l.sums c ≡ slice_index l.blocks (place_of g.row.N l.width l.count l.v c)
