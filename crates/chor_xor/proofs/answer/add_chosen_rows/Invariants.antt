use Rattle.std.proofs.Common.{◌≡◌, ℕ, ◌+◌, ◌*◌, ◌-◌, ◌≤◌, ◌<◌, slice_index}
use Rattle.gf256.specs.Field.{◌⊕◌}
use Rattle.chor_xor.specs.Bitmap.{bit_of}
use Rattle.chor_xor.proofs.RunSums.{quarters}
use Rattle.chor_xor.proofs.answer.add_chosen_rows.Given as goal

abbrev pub invariant-fours : goal.invariant-fours
invariant-fours l = record {
  a_from : l.from ≤ l.a;
  a_to : l.a ≤ l.from + l.quarter;
  b_from : l.from + l.quarter ≤ l.b;
  b_to : l.b ≤ l.from + 2 * l.quarter;
  c_from : l.from + 2 * l.quarter ≤ l.c;
  c_to : l.c ≤ l.from + 3 * l.quarter;
  d_from : l.from + 3 * l.quarter ≤ l.d;
  d_to : l.d ≤ l.to;
  a_set : l.a < l.from + l.quarter → bit_of l.bitmap l.a ≡ 1;
  b_set : l.b < l.from + 2 * l.quarter → bit_of l.bitmap l.b ≡ 1;
  c_set : l.c < l.from + 3 * l.quarter → bit_of l.bitmap l.c ≡ 1;
  d_set : l.d < l.to → bit_of l.bitmap l.d ≡ 1;
  summed : (k : ℕ) → slice_index l.sum k ≡ slice_index l.fn.sum k ⊕ quarters l.bitmap l.matrix.rows k l.from l.quarter l.a l.b l.c l.d;
}

abbrev pub decreases-fours : goal.decreases-fours
decreases-fours l = l.from + l.quarter - l.a
