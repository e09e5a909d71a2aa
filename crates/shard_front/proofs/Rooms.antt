-- What a query takes has its place in the room.
use Rattle.std.proofs.Common.{◌≡◌, ℕ, ◌*◌, ◌≤◌, refl, arith}
use Rattle.std.proofs.Math.Nat.{mul-le-mul_left, mul-le-mul_right}
use Rattle.wire_frames.specs.Scheme.{scheme_of}
use Rattle.wire_frames.specs.Sizes.{answer_len}
use Rattle.serve_core.specs.Terms.{most_blocks_for, payload_len_for}
use Rattle.shard_front.specs.Spread.{Spread, rows_in, terms_of}
use Rattle.shard_front.specs.Parts.{part_len}
use Rattle.shard_front.specs.Room.{most_answer_for, most_part_for}

-- a vector has a byte for each row
pub vectors_len : (spread : Spread) (count : ℕ) → payload_len_for (terms_of spread) count ≡ count * spread.rows
unfolding scheme_of
vectors_len spread count = refl

-- a query for so many blocks
module _ (spread : Spread) (count : ℕ) (few : count ≤ most_blocks_for (terms_of spread)) where
  -- has an answer for which there is room
  pub answer_fits : answer_len count spread.width ≤ most_answer_for spread
  answer_fits = omega (arith, mul-le-mul_right spread.width few)

  -- and so has the part of it for any shard
  pub part_fits : (i : ℕ) → part_len spread count i ≤ most_part_for spread
  part_fits i =
      let rows : rows_in spread i ≤ spread.shard = omega arith in
      omega (arith, mul-le-mul_left count rows, mul-le-mul_right spread.shard few)
