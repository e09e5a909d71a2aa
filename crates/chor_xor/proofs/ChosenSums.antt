-- Sums of chosen rows, row by row and over the servers.
use Rattle.std.proofs.Common.{◌≡◌, ℕ, suc, ◌+◌, ◌-◌, ◌/◌, ◌%◌, ◌<◌, ◌≤◌, List, [], ◌∷◌, ◌++◌, length, get_or, inl, inr, refl, sym, ap, ap₂, subst, ◌∙◌, arith, lit<}
use Rattle.std.specs.Int.{bit_at}
use Rattle.std.proofs.lemmas.Bool.{cases_lt}
use Rattle.std.proofs.lemmas.List.{ext_get_or, get_or_past, get_or_append_left, get_or_push, length-append}
use Rattle.std.proofs.lemmas.List.FromFn.{length-map-range_with_len, get_or-map-range_with_len}
use Rattle.gf256.specs.Field.{◌⊕◌, ◌⊗◌}
use Rattle.gf256.specs.Product.{IsMatrix}
use Rattle.gf256.specs.Sums.{sum_to}
use Rattle.gf256.proofs.FieldLaws.{zero_mul, one_mul}
use Rattle.gf256.proofs.Sums.{sum_to-same, sum_to-zero, sum_to-one, sum_to-mul, sum_to-swap}
use Rattle.block_matrix.specs.Database.{Database}
use Rattle.chor_xor.specs.Bitmap.{bit_of, bitmap, unit_byte}
use Rattle.chor_xor.specs.Chosen.{given, chosen_at, chosen, answers, combined_at, combined}
use Rattle.chor_xor.proofs.Bits.{bit-sum_to, unit-same, unit-other}
use Rattle.chor_xor.proofs.Shares.{sum_of_bitmaps}

-- the byte of a row in a column
abbrev pub cell : List (List ℕ) → ℕ → ℕ → ℕ
cell rows c j = get_or (get_or rows j []) c 0

-- it is a byte
cell_lt : (rows : List (List ℕ)) (r s c j : ℕ) → IsMatrix rows r s → j < r → cell rows c j < 256
cell_lt rows r s c j is l =
    let row = get_or rows j [] in
    elim (cases_lt c (length row)) [
      | inl low ↦ is.bytes j [] (omega (arith, is.rows)) c 0 low
      | inr past ↦ subst (λ x. x < 256) (sym (get_or_past row c 0 past)) (lit< tt)
    ]

-- the bits of one row in all bitmaps
module _ (coins : List ℕ) (n r block : ℕ) (some : 1 ≤ n) where
  bits_are : (j : ℕ) → j < r → sum_to (λ i. bit_of (bitmap coins n r block (i + 1)) j) n ≡ bit_at (unit_byte block (j / 8)) (7 - j % 8)
  unfolding bit_of
  bits_are j l =
      sym (bit-sum_to (λ i. get_or (bitmap coins n r block (i + 1)) (j / 8) 0) n (7 - j % 8))
      ∙ ap (λ x. bit_at x (7 - j % 8)) (sum_of_bitmaps coins n r block (j / 8) some (omega arith))

  -- what one row gives to all answers together
  row_gives : (rows : List (List ℕ)) (c j b : ℕ) → j < r → bit_at (unit_byte block (j / 8)) (7 - j % 8) ≡ b
      → sum_to (λ i. given (bitmap coins n r block (i + 1)) rows c j) n ≡ b ⊗ cell rows c j
  unfolding given
  row_gives rows c j b l e =
      sym (sum_to-mul (cell rows c j) (λ i. bit_of (bitmap coins n r block (i + 1)) j) n)
      ∙ ap (λ x. x ⊗ cell rows c j) (bits_are j l ∙ e)

  -- a column of all answers together
  column_is : (rows : List (List ℕ)) (s c : ℕ) → IsMatrix rows r s → block < r
      → sum_to (λ i. chosen_at (bitmap coins n r block (i + 1)) rows c) n ≡ cell rows c block
  unfolding chosen_at
  column_is rows s c is l =
      sum_to-swap (λ i. given (bitmap coins n r block (i + 1)) rows c) n (length rows)
      ∙ sum_to-one (λ j. sum_to (λ i. given (bitmap coins n r block (i + 1)) rows c j) n) (length rows) block (omega (arith, is.rows, l))
      (λ j m ne. row_gives rows c j 0 (omega (arith, is.rows, m)) (unit-other block j ne) ∙ zero_mul (cell rows c j))
      ∙ row_gives rows c block 1 l (unit-same block) ∙ one_mul (cell rows c block) (cell_lt rows r s c block is l)

-- how long the sum of the chosen rows is
pub length-chosen : (m : Database) (bitmap : List ℕ) → length (chosen m bitmap) ≡ m.width
unfolding chosen
length-chosen m bitmap = length-map-range_with_len (chosen_at bitmap m.rows) 0 m.width

-- one of its columns
pub chosen-column : (m : Database) (bitmap : List ℕ) (c : ℕ) → c < m.width → get_or (chosen m bitmap) c 0 ≡ chosen_at bitmap m.rows c
unfolding chosen
chosen-column m bitmap c l = get_or-map-range_with_len (chosen_at bitmap m.rows) 0 m.width c c 0 l (omega arith)

-- the bytes of the sum of the chosen rows
pub chosen-is : (m : Database) (bitmap out : List ℕ) → length out ≡ m.width
    → ((c : ℕ) → get_or out c 0 ≡ chosen_at bitmap m.rows c) → out ≡ chosen m bitmap
chosen-is m bitmap out size is =
    ext_get_or 0 out (chosen m bitmap) (size ∙ sym (length-chosen m bitmap))
    (λ c l. is c ∙ sym (chosen-column m bitmap c (omega arith)))

-- a row whose bit is set gives its byte
pub given-chosen : (bitmap row : List ℕ) (rows : List (List ℕ)) (r s c j : ℕ) → IsMatrix rows r s → j < r → bit_of bitmap j ≡ 1
    → row ≡ get_or rows j [] → get_or row c 0 ≡ given bitmap rows c j
unfolding given
given-chosen bitmap row rows r s c j is l bit e =
    ap (λ x. get_or x c 0) e ∙ sym (ap (λ b. b ⊗ cell rows c j) bit ∙ one_mul (cell rows c j) (cell_lt rows r s c j is l))

-- a row whose bit isn't set gives nothing
pub given-left : (bitmap : List ℕ) (rows : List (List ℕ)) (c j : ℕ) → bit_of bitmap j ≡ 0 → given bitmap rows c j ≡ 0
unfolding given
given-left bitmap rows c j bit = ap (λ b. b ⊗ cell rows c j) bit ∙ zero_mul (cell rows c j)

-- the answers of all servers, column by column, are the row of the block
pub answers-columns : (m : Database) (coins : List ℕ) (n r block : ℕ) → 1 ≤ n → block < r → IsMatrix m.rows r m.width
    → (c : ℕ) → sum_to (λ i. get_or (chosen m (bitmap coins n r block (i + 1))) c 0) n ≡ get_or (get_or m.rows block []) c 0
answers-columns m coins n r block some l is c =
    elim (cases_lt c m.width) [
      | inl low ↦
          sum_to-same _ (λ i. chosen_at (bitmap coins n r block (i + 1)) m.rows c) n (λ i h. chosen-column m (bitmap coins n r block (i + 1)) c low)
          ∙ column_is coins n r block some m.rows m.width c is l
      | inr past ↦
          let row = get_or m.rows block [] in
          let long : length row ≡ m.width = is.widths block [] (omega (arith, is.rows, l)) in
          sum_to-zero _ n (λ i h. get_or_past (chosen m (bitmap coins n r block (i + 1))) c 0 (omega (arith, past, length-chosen m (bitmap coins n r block (i + 1)))))
          ∙ sym (get_or_past row c 0 (omega (arith, past, long)))
    ]

-- payload i of the servers' answers
answer_at : (m : Database) (coins : List ℕ) (n block i : ℕ) → i < n → get_or (answers m coins n block) i [] ≡ chosen m (bitmap coins n (length m.rows) block (i + 1))
unfolding answers
answer_at m coins n block i l = get_or-map-range_with_len (λ j. chosen m (bitmap coins n (length m.rows) block j)) 1 n i (i + 1) [] l (omega arith)

-- how many answers there are
length-answers : (m : Database) (coins : List ℕ) (n block : ℕ) → length (answers m coins n block) ≡ n
unfolding answers
length-answers m coins n block = length-map-range_with_len (λ j. chosen m (bitmap coins n (length m.rows) block j)) 1 n

-- a list that has the sum of the payloads in each place is what they give together; so a client's
-- fold from zeros ends
pub combined-is : (payloads : List (List ℕ)) (sum : List ℕ) (width : ℕ) → length sum ≡ width
    → ((c : ℕ) → get_or sum c 0 ≡ combined_at payloads c) → sum ≡ combined width payloads
unfolding combined
combined-is payloads sum width size is =
    ext_get_or 0 sum _ (size ∙ sym (length-map-range_with_len (combined_at payloads) 0 width))
    (λ c l. is c ∙ sym (get_or-map-range_with_len (combined_at payloads) 0 width c c 0 (omega (arith, l, size)) (omega arith)))

-- a column of the answers combined
combined-column : (m : Database) (coins : List ℕ) (n block c : ℕ)
    → combined_at (answers m coins n block) c ≡ sum_to (λ i. get_or (chosen m (bitmap coins n (length m.rows) block (i + 1))) c 0) n
unfolding combined_at
combined-column m coins n block c =
    ap (sum_to (λ i. get_or (get_or (answers m coins n block) i []) c 0)) (length-answers m coins n block)
    ∙ sum_to-same _ _ n (λ i l. ap (λ xs. get_or xs c 0) (answer_at m coins n block i l))

-- the answers of all servers combined are the row of the block
pub answers-combined : (m : Database) (coins : List ℕ) (n r block : ℕ) → 1 ≤ n → block < r → IsMatrix m.rows r m.width
    → combined m.width (answers m coins n block) ≡ get_or m.rows block []
unfolding combined
answers-combined m coins n r block some l is =
    let row = get_or m.rows block [] in
    let payloads = answers m coins n block in
    let size = length-map-range_with_len (combined_at payloads) 0 m.width in
    ext_get_or 0 _ row (size ∙ sym (is.widths block [] (omega (arith, is.rows, l))))
    (λ c h.
    let low : c < m.width = omega (arith, h, size) in
    get_or-map-range_with_len (combined_at payloads) 0 m.width c c 0 low (omega arith)
    ∙ combined-column m coins n block c
    ∙ ap (λ k. sum_to (λ i. get_or (chosen m (bitmap coins n k block (i + 1))) c 0) n) is.rows
    ∙ answers-columns m coins n r block some l is c)

-- one payload more
pub combined_at-push : (payloads : List (List ℕ)) (payload : List ℕ) (c : ℕ) → combined_at (payloads ++ payload ∷ []) c ≡ combined_at payloads c ⊕ get_or payload c 0
unfolding combined_at sum_to
combined_at-push payloads payload c =
    let all = payloads ++ payload ∷ [] in
    let long : length all ≡ suc (length payloads) = length-append payloads (payload ∷ []) ∙ (omega arith) in
    ap (sum_to (λ i. get_or (get_or all i []) c 0)) long
    ∙ ap₂ ◌⊕◌
    (sum_to-same _ (λ i. get_or (get_or payloads i []) c 0) (length payloads) (λ i l. ap (λ (p : List ℕ). get_or p c 0) (get_or_append_left payloads (payload ∷ []) [] i l)))
    (ap (λ (p : List ℕ). get_or p c 0) (get_or_push payloads payload [] (length payloads) refl))
