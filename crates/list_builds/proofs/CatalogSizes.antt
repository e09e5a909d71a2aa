-- What a catalog says of the table of a list is what one may say.
use Rattle.std.proofs.Common.{ℕ, ◌+◌, ◌-◌, ◌*◌, ◌/◌, ◌^◌, ◌<◌, ◌≤◌, List, [], ◌∷◌, length, div-lt_iff_lt-mul, mul-le-mul_right, mul_comm, arith}
use Rattle.std.specs.Prelude.{fold, map, max}
use Rattle.std.specs.List.{range_with_len}
use Rattle.std.proofs.Math.Nat.{le-max_left, mul-le-mul_left}
use Rattle.std.proofs.lemmas.Nat.{le-div}
use Rattle.std.proofs.lemmas.List.Elements.{All-weaker}
use Rattle.key_table.specs.Digest.{number_of, row_of}
use Rattle.key_table.specs.Entry.{AreBytes, Pair, entry_size}
use Rattle.key_table.specs.Shapes.{HasShape}
use Rattle.key_table.specs.Sorting.{AreAscending, Sorted}
use Rattle.key_table.specs.Table.{head_size, pairs_in}
use Rattle.key_table.specs.Width.{fullest, width_of}
use Rattle.key_table.specs.declared.shape.Shape.{Shape}
use Rattle.key_table.proofs.RowParts.{row_has_room}
use Rattle.list_catalog.specs.Facts.{AreSizes}
use Rattle.list_builds.proofs.Room.{all_in_rows}

-- eight bytes spell a number below 2^64
number_below : (digest : List ℕ) → AreBytes digest → number_of digest < 2 ^ 64
unfolding number_of
number_below digest h = omega (arith, h 0, h 1, h 2, h 3, h 4, h 5, h 6, h 7)

-- a digest's row is one of the rows
row_within : (rows : ℕ) (digest : List ℕ) → 0 < rows → AreBytes digest → row_of rows digest < rows
row_within rows digest some h =
    let next : (number_of digest + 1) * rows ≤ 2 ^ 64 * rows = mul-le-mul_right rows (omega (arith, number_below digest h)) in
    let products : number_of digest * rows < rows * 2 ^ 64 = omega (arith, next, some, mul_comm rows (2 ^ 64)) in
    (div-lt_iff_lt-mul (omega arith)).1 products

-- the greatest of numbers from one on is no less
fold_from : (a : ℕ) (ns : List ℕ) → a ≤ fold max a ns
fold_from a [] = omega arith
fold_from a (n ∷ ns) = omega (arith, fold_from (max a n) ns, le-max_left a n)

-- a row has room for one entry
room_for_one : (sorted : Sorted) (shape : Shape) → HasShape sorted shape → head_size + entry_size sorted.size sorted.most ≤ shape.width
unfolding width_of
room_for_one sorted shape has =
    let step = entry_size sorted.size sorted.most in
    let some : 1 ≤ fullest shape.rows sorted.pairs
    = fold_from 1 (map (λ j. length (pairs_in shape.rows j sorted.pairs)) (range_with_len 0 shape.rows)) in
    let product : step * 1 ≤ step * fullest shape.rows sorted.pairs = mul-le-mul_left step some in
    omega (arith, has.width, product)

-- and all rows have room for all entries
room_for_all : (sorted : Sorted) (shape : Shape) → AreAscending sorted → HasShape sorted shape
    → length sorted.pairs ≤ shape.rows * ((shape.width - head_size) / entry_size sorted.size sorted.most)
room_for_all sorted shape up has =
    let step = entry_size sorted.size sorted.most in
    let some : 0 < step = omega (arith, up.least) in
    all_in_rows (λ p. row_of shape.rows p.digest) ((shape.width - head_size) / step) shape.rows sorted.pairs
    (All-weaker (λ (p : Pair). AreBytes p.digest) (λ (p : Pair). row_of shape.rows p.digest < shape.rows)
    (λ p h. row_within shape.rows p.digest (omega (arith, has.is_shape.some_rows)) h) sorted.pairs up.bytes)
    (λ j lt.
    let here = length (pairs_in shape.rows j sorted.pairs) in
    let fits = row_has_room sorted.size sorted.most shape.rows shape.width j sorted.pairs lt (omega (arith, has.width)) in
    le-div here (shape.width - head_size) step some (omega (arith, fits, mul_comm step here)))

-- what a catalog says
pub sizes_of_catalog : (sorted : Sorted) (shape : Shape) → AreAscending sorted → HasShape sorted shape → 0 < length sorted.pairs
    → AreSizes sorted.size (length sorted.pairs) shape.rows sorted.most shape.width
sizes_of_catalog sorted shape up has some = record {
  long_digest = up.least;
  short_digest = up.most_size;
  some_entries = omega (arith, some);
  few_entries = up.few;
  shape = has.is_shape;
  short_value = up.most_value;
  wide = room_for_one sorted shape has;
  roomy = room_for_all sorted shape up has;
}
