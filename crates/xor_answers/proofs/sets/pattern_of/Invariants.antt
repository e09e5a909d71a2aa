use Rattle.std.proofs.Common.{◌≡◌, ℕ, ◌-◌, ◌^◌, ◌<◌}
use Rattle.std.specs.Int.{bit_at}
use Rattle.row_workers.specs.Pieces.{piece}
use Rattle.chor_xor.specs.Bitmap.{bit_of}
use Rattle.xor_answers.proofs.sets.pattern_of.Given as goal

abbrev pub invariant-loop-v : goal.invariant-loop-v
invariant-loop-v l = record {
  small : l.pattern < 2 ^ l.v;
  bits : (u : ℕ) → u < l.v → bit_at l.pattern (l.v - 1 - u) ≡ bit_of (piece l.size l.bitmaps u) l.j;
}
