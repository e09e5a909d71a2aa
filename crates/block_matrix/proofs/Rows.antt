-- The rows that lie one after the other in a list of bytes.
use Rattle.std.proofs.Common.{◌≡◌, ◌∙◌, ℕ, ◌+◌, ◌-◌, ◌*◌, ◌<◌, ◌≤◌, List, [], ◌∷◌, ◌++◌, length, take, drop, map, get_or, zero, suc, sym, ap, ap₂, subst, arith, append-nil}
use Rattle.std.specs.List.{All, range_with_len, concat}
use Rattle.std.proofs.Math.Nat.{mul-le-mul_right}
use Rattle.std.proofs.Math.Seq.{take-add}
use Rattle.std.proofs.lemmas.List.{length-take-le, length-drop, take_all}
use Rattle.std.proofs.lemmas.List.Folds.{concat-append}
use Rattle.std.proofs.lemmas.List.Elements.{All-map, All-take, All-drop}
use Rattle.std.proofs.lemmas.List.FromFn.{map-range_with_len_more, length-map-range_with_len, length-range_with_len, get_or-range_with_len, get_or-map-range_with_len}
use Rattle.gf256.specs.Product.{IsMatrix}
use Rattle.block_matrix.specs.Database.{row_at, rows_of}

-- there are as many rows as were counted
pub length-rows_of : (width count : ℕ) (bytes : List ℕ) → length (rows_of width count bytes) ≡ count
unfolding rows_of
length-rows_of width count bytes = length-map-range_with_len (row_at width bytes) 0 count

-- row j among them
pub get_or-rows_of : (width count : ℕ) (bytes : List ℕ) (j : ℕ) → j < count → get_or (rows_of width count bytes) j [] ≡ row_at width bytes j
unfolding rows_of
get_or-rows_of width count bytes j lt = get_or-map-range_with_len (row_at width bytes) 0 count j j [] lt (omega arith)

-- a row ends within the bytes
pub row_fits : (width count : ℕ) (bytes : List ℕ) (j : ℕ) → length bytes ≡ count * width → j < count → j * width + width ≤ length bytes
row_fits width count bytes j size lt =
    let most : (j + 1) * width ≤ count * width = mul-le-mul_right width (omega (arith, lt)) in
    let next : (j + 1) * width ≡ j * width + width = grind arith in
    omega (arith, size, most, next)

-- so many bytes from a place within the bytes on
length-row : (width : ℕ) (bytes : List ℕ) (from : ℕ) → from + width ≤ length bytes → length (take (from + width - from) (drop from bytes)) ≡ width
length-row width bytes from fits =
    let rest = length-drop from bytes in
    length-take-le (from + width - from) (drop from bytes) (omega (arith, fits, rest)) ∙ omega arith

-- a row has the width
pub length-row_at : (width count : ℕ) (bytes : List ℕ) (j : ℕ) → length bytes ≡ count * width → j < count → length (row_at width bytes j) ≡ width
length-row_at width count bytes j size lt = length-row width bytes (j * width) (row_fits width count bytes j size lt)

-- rows of bytes are a matrix
pub IsMatrix-rows_of : (width count : ℕ) (bytes : List ℕ) → length bytes ≡ count * width → All (λ b. b < 256) bytes → IsMatrix (rows_of width count bytes) count width
unfolding rows_of
IsMatrix-rows_of width count bytes size small = record {
  rows = length-map-range_with_len (row_at width bytes) 0 count;
  widths = All-map (λ (row : List ℕ). length row ≡ width) (row_at width bytes) (range_with_len 0 count) (λ i d lt.
      let below : i < count = subst (λ n. i < n) (length-range_with_len 0 count) lt in
      length-row_at width count bytes (get_or (range_with_len 0 count) i d) size (subst (λ j. j < count) (sym (get_or-range_with_len 0 count i d below)) (omega (arith, below))));
  bytes = All-map (λ (row : List ℕ). All (λ b. b < 256) row) (row_at width bytes) (range_with_len 0 count) (λ i d lt.
      let j = get_or (range_with_len 0 count) i d in
      All-take (λ b. b < 256) (j * width + width - j * width) (drop (j * width) bytes) (All-drop (λ b. b < 256) (j * width) bytes small));
}

-- the first rows, one after the other, are the prefix of the bytes that they were cut from
joined_rows : (width count : ℕ) (bytes : List ℕ) → concat (rows_of width count bytes) ≡ take (count * width) bytes
unfolding rows_of
joined_rows width zero bytes = let none : 0 ≡ 0 * width = grind arith in ap (λ (k : ℕ). take k bytes) none
joined_rows width (suc n) bytes =
    let grow : suc n ≡ n + 1 = omega arith in
    let size : n * width + width - n * width ≡ width = omega arith in
    let next : n * width + width ≡ suc n * width = grind arith in
    ap (λ (k : ℕ). concat (map (row_at width bytes) (range_with_len 0 k))) grow
    ∙ ap concat (map-range_with_len_more (row_at width bytes) 0 n n (omega arith))
    ∙ concat-append (map (row_at width bytes) (range_with_len 0 n)) (row_at width bytes n ∷ [])
    ∙ ap₂ (λ (a b : List ℕ). a ++ b) (joined_rows width n bytes) (append-nil (row_at width bytes n) ∙ ap (λ (k : ℕ). take k (drop (n * width) bytes)) size)
    ∙ sym (take-add (n * width) width bytes)
    ∙ ap (λ (k : ℕ). take k bytes) next

-- all rows, one after the other, are the bytes
pub concat-rows_of : (width count : ℕ) (bytes : List ℕ) → length bytes ≡ count * width → concat (rows_of width count bytes) ≡ bytes
concat-rows_of width count bytes size = joined_rows width count bytes ∙ take_all (count * width) bytes (omega (arith, size))
