-- Rows that bitmaps ask for, by masks.
use Rattle.std.proofs.Common.{◌≡◌, ℕ, zero, suc, ◌+◌, ◌-◌, ◌*◌, ◌/◌, ◌%◌, ◌≤◌, ◌<◌, List, [], length, get_or, bit_and, bit_xor, slice_index, slice_index_or, slice_range, refl, sym, ap, ap₂, subst, ◌∙◌, arith, inl, inr}
use Rattle.std.specs.Simd.Lanes.{zip2, chunk, put_chunk}
use Rattle.std.proofs.lemmas.Nat.{and_mask, mod_below, div-mul-add, mod-mul-add}
use Rattle.std.proofs.lemmas.Bool.{cases_lt}
use Rattle.std.proofs.lemmas.Nat.Bits.{bit_at-lt}
use Rattle.std.proofs.lemmas.Simd.{length-zip2, get_or-zip2, length-put_chunk, get_or-put_chunk_at, get_or-put_chunk_below}
use Rattle.gf256.specs.Field.{◌⊕◌, ◌⊗◌}
use Rattle.gf256.specs.Rows.{IsAdded, AreLanes}
use Rattle.gf256.specs.Product.{IsMatrix}
use Rattle.gf256.proofs.FieldLaws.{zero_mul, one_mul}
use Rattle.gf256.proofs.Added.{added-lanes}
use Rattle.gf256.proofs.LaneSums.{lanes-of, lanes-sum}
use Rattle.block_matrix.specs.Database.{Database}
use Rattle.row_workers.specs.Pieces.{piece}
use Rattle.row_workers.specs.declared.four_rows.FourRows.{FourRows}
use Rattle.row_workers.specs.Blocks.{block_start, column_at, query_at, laid_at, four_of}
use Rattle.row_workers.proofs.BlockSums.{lane-is, query-is, column-is, column-within, lanes-from, plus_four}
use Rattle.chor_xor.specs.Bitmap.{bit_of, size_of}
use Rattle.chor_xor.specs.Chosen.{given}
use Rattle.xor_answers.specs.Asked.{asked}
use Rattle.xor_answers.specs.Masked.{masked_at, AreMasks}
use Rattle.xor_answers.proofs.AnswerSums.{asked-is}

-- what a row gives, by the bitmap that is cut out
pub given-is : (bitmaps : List ℕ) (rows : List (List ℕ)) (width m s c j : ℕ) → s ≡ size_of (length rows) → c < width
    → given (slice_range bitmaps (m * s) ((m + 1) * s)) rows c j ≡ asked bitmaps rows width (m * width + c) j
given-is bitmaps rows width m s c j e l =
    ap (λ s. given (slice_range bitmaps (m * s) ((m + 1) * s)) rows c j) e ∙ sym (asked-is bitmaps rows width m c j l)

-- a byte under a mask
masked : (x b : ℕ) → x < 256 → b < 2 → bit_and x (255 * b) ≡ b ⊗ x
masked x zero byte l = ap (bit_and x) (let e : 255 * 0 ≡ 0 = refl in e) ∙ nothing x ∙ sym (zero_mul x) where
  -- a byte under the empty mask
  nothing : (y : ℕ) → bit_and y 0 ≡ 0
  nothing y = and_mask y 0 ∙ omega arith
masked x (suc zero) byte l = and_mask x 8 ∙ (let e : x % 256 ≡ x = omega arith in e) ∙ sym (one_mul x byte)
masked x (suc (suc b)) byte l = absurd (omega arith)

-- lanes under a mask
lanes-and : {n : ℕ} (xs ys : List ℕ) (g h : ℕ → ℕ) (at : ℕ) → AreLanes n xs g at → AreLanes n ys h at
    → AreLanes n (zip2 bit_and xs ys) (λ k. bit_and (g k) (h k)) at
lanes-and xs ys g h at a b = record {
  size = length-zip2 bit_and xs ys (a.size ∙ sym b.size) ∙ a.size;
  each = λ k l.
      get_or-zip2 bit_and xs ys k 0 0 0 (omega (arith, a.size, l)) (omega (arith, b.size, l))
      ∙ ap₂ bit_and (a.each k l) (b.each k l);
}

-- four rows under the masks of one bitmap, added to one block
pub block-put : (lanes : ℕ) (acc old : List ℕ) (rows : FourRows) (masks xa xb xc xd sa sb sc sd base : List ℕ) (n i v from start : ℕ)
    → lanes ≤ 32 → lanes ≤ length rows.a.now
    → length rows.b.now ≡ length rows.a.now → length rows.c.now ≡ length rows.a.now → length rows.d.now ≡ length rows.a.now
    → length masks ≡ 2048 → n ≤ 16
    → v < n → lanes * (i * n + v) + lanes ≤ length acc → from ≤ lanes * (i * n + v) → start ≡ block_start lanes (length rows.a.now) i
    → base ≡ chunk (lanes * (i * n + v)) lanes acc
    → xa ≡ chunk start lanes rows.a.now → xb ≡ chunk start lanes rows.b.now → xc ≡ chunk start lanes rows.c.now → xd ≡ chunk start lanes rows.d.now
    → sa ≡ chunk (128 * v) lanes masks → sb ≡ chunk (128 * v + 32) lanes masks
    → sc ≡ chunk (128 * v + 64) lanes masks → sd ≡ chunk (128 * v + 96) lanes masks
    → IsAdded acc old (masked_at lanes rows masks n) from (lanes * (i * n + v))
    → IsAdded (put_chunk (lanes * (i * n + v)) acc (zip2 bit_xor (zip2 bit_xor (zip2 bit_xor (zip2 bit_xor
    base (zip2 bit_and xa sa)) (zip2 bit_and xb sb)) (zip2 bit_and xc sc)) (zip2 bit_and xd sd)))
    old (masked_at lanes rows masks n) from (lanes * (i * n + v) + lanes)
unfolding masked_at
block-put lanes acc old rows masks xa xb xc xd sa sb sc sd base n i v from start most_lanes wide eb ec ed em most few room begun is_start is_base cut_a cut_b cut_c cut_d ma mb mc md done =
    let a = rows.a.now in
    let b = rows.b.now in
    let c = rows.c.now in
    let d = rows.d.now in
    let width = length a in
    let at = lanes * (i * n + v) in
    let inside : start + lanes ≤ width = omega arith in
    let one : (row xs ms : List ℕ) (m : ℕ) → start + lanes ≤ length row → m + lanes ≤ 2048 → xs ≡ chunk start lanes row → ms ≡ chunk m lanes masks
    → AreLanes lanes (zip2 bit_and xs ms) (λ p. bit_and (get_or row (start + (p - at)) 0) (get_or masks (m + (p - at)) 0)) at =
    λ row xs ms m fits lm cut cutm.
    subst (λ zs. AreLanes lanes zs (λ p. bit_and (get_or row (start + (p - at)) 0) (get_or masks (m + (p - at)) 0)) at) (sym (ap₂ (zip2 bit_and) cut cutm))
    (lanes-and (chunk start lanes row) (chunk m lanes masks) _ _ at (lanes-from lanes row start at fits) (lanes-from lanes masks m at (omega (arith, lm, em)))) in
    let of_a = one a xa sa (128 * v) inside (omega arith) cut_a ma in
    let of_b = one b xb sb (128 * v + 32) (omega (arith, inside, eb)) (omega arith) cut_b mb in
    let of_c = one c xc sc (128 * v + 64) (omega (arith, inside, ec)) (omega arith) cut_c mc in
    let of_d = one d xd sd (128 * v + 96) (omega (arith, inside, ed)) (omega arith) cut_d md in
    let of_base = subst (λ zs. AreLanes lanes zs (λ k. get_or acc k 0) at) (sym is_base) (lanes-of lanes acc at room) in
    let sum = lanes-sum _ _ _ _ at (lanes-sum _ _ _ _ at (lanes-sum _ _ _ _ at (lanes-sum _ _ _ _ at of_base of_a) of_b) of_c) of_d in
    added-lanes acc old _ (masked_at lanes rows masks n) _ from at at room sum (omega arith) (omega arith) (omega arith)
    (λ k l m. absurd (omega (arith, l, m, begun)))
    (λ p l m h.
    let k = p - at in
    let small : k < lanes = omega (arith, l, h) in
    let place : p ≡ at + k = omega (arith, l) in
    let q = query-is lanes n i v k p few small place in
    let lane = lane-is lanes n i v k p few small place in
    let col = column-is lanes n i v k p few small place width in
    let there : start + k ≡ column_at lanes width n p = ap (λ s. s + k) is_start ∙ sym col in
    let term : (row : List ℕ) (m : ℕ) → bit_and (get_or row (start + k) 0) (get_or masks (128 * v + m + k) 0)
    ≡ bit_and (get_or row (column_at lanes width n p) 0) (get_or masks (128 * query_at lanes n p + m + p % lanes) 0) =
    λ row m. ap₂ bit_and (ap (λ j. get_or row j 0) there) (ap₂ (λ u e. get_or masks (128 * u + m + e) 0) (sym q) (sym lane)) in
    let first : bit_and (get_or a (start + k) 0) (get_or masks (128 * v + k) 0)
    ≡ bit_and (get_or a (column_at lanes width n p) 0) (get_or masks (128 * query_at lanes n p + p % lanes) 0) =
    ap₂ bit_and (ap (λ j. get_or a j 0) there) (ap₂ (λ u e. get_or masks (128 * u + e) 0) (sym q) (sym lane)) in
    plus_four (get_or acc p 0) _ _ _ _
    ∙ ap₂ ◌⊕◌ (done.after p l) (ap₂ ◌⊕◌ (ap₂ ◌⊕◌ (ap₂ ◌⊕◌ first (term b 32)) (term c 64)) (term d 96)))
    done

-- four rows under their masks give what each of them gives
pub four-asked : (lanes : ℕ) (bitmaps masks : List ℕ) (four : FourRows) (m : Database) (n j apart s p : ℕ)
    → (1 ≤ lanes) × (lanes ≤ 32) → 1 ≤ n → lanes ≤ m.width
    → length four.a.now ≡ m.width → s ≡ size_of (length m.rows) → IsMatrix m.rows (length m.rows) m.width → j + 3 * apart < length m.rows
    → four.a.now ≡ slice_index_or m.rows j [] → four.b.now ≡ slice_index_or m.rows (j + apart) []
    → four.c.now ≡ slice_index_or m.rows (j + 2 * apart) [] → four.d.now ≡ slice_index_or m.rows (j + 3 * apart) []
    → AreMasks masks bitmaps s n j apart
    → masked_at lanes four masks n p ≡ four_of (asked bitmaps m.rows m.width (laid_at lanes m.width n p)) j apart
unfolding masked_at asked given bit_of
four-asked lanes bitmaps masks four m n j apart s p least some wide ew es is within ea eb ec ed held =
    let rows = m.rows in
    let w = length four.a.now in
    let v = query_at lanes n p in
    let few : v < n = mod_below (p / lanes) n (omega arith) in
    let k = p % lanes in
    let lane = mod_below p lanes least.0 in
    let small : k < 32 = omega (arith, lane, least.1) in
    let col = column_at lanes m.width n p in
    let inside = column-within lanes m.width n p least.0 wide in
    let quotient = div-mul-add v m.width col inside in
    let rest = mod-mul-add v m.width col inside in
    let one : (g i : ℕ) (row : List ℕ) → g < 4 → j + g * apart ≡ i → i < length rows → row ≡ slice_index_or rows i []
    → bit_and (slice_index row (column_at lanes w n p)) (slice_index masks (128 * v + 32 * g + k))
    ≡ bit_of (piece (size_of (length rows)) bitmaps (laid_at lanes m.width n p / m.width)) i ⊗ slice_index (slice_index_or rows i []) (laid_at lanes m.width n p % m.width) =
    λ g i row l e lm has.
    let bit = bit_of (piece (size_of (length rows)) bitmaps v) i in
    let byte : slice_index (slice_index_or rows i []) col < 256 =
    is.bytes i [] (omega arith) col 0 (let long = is.widths i [] (omega arith) in omega (arith, long, inside)) in
    ap₂ bit_and (ap₂ (λ xs w. slice_index xs (column_at lanes w n p)) has ew)
    (held v g k few l small ∙ ap₂ (λ s i. 255 * bit_of (piece s bitmaps v) i) es e)
    ∙ masked (slice_index (slice_index_or rows i []) col) bit byte (bit_at-lt _ _)
    ∙ ap₂ (λ u d. bit_of (piece (size_of (length rows)) bitmaps u) i ⊗ slice_index (slice_index_or rows i []) d) (sym quotient) (sym rest) in
    let zero_is : 128 * v + k ≡ 128 * v + 32 * 0 + k = omega arith in
    ap₂ ◌⊕◌ (ap₂ ◌⊕◌ (ap₂ ◌⊕◌
    (ap (λ x. bit_and (slice_index four.a.now (column_at lanes w n p)) (slice_index masks x)) zero_is
    ∙ one 0 j four.a.now (omega arith) (omega arith) (omega arith) ea)
    (one 1 (j + apart) four.b.now (omega arith) (omega arith) (omega arith) eb))
    (one 2 (j + 2 * apart) four.c.now (omega arith) (omega arith) (omega arith) ec))
    (one 3 (j + 3 * apart) four.d.now (omega arith) (omega arith) (omega arith) ed)

-- place p of the masks
abbrev pub mask_at : List ℕ → ℕ → ℕ → ℕ → ℕ → ℕ
mask_at bitmaps size j apart p = 255 * bit_of (piece size bitmaps (p / 128)) (j + p % 128 / 32 * apart)

-- 32 places more of a list that is filled from its beginning on
filled-lanes : (xs lanes : List ℕ) (h : ℕ → ℕ) (m : ℕ) → m + 32 ≤ length xs → length lanes ≡ 32
    → ((k : ℕ) → k < 32 → get_or lanes k 0 ≡ h (m + k)) → ((p : ℕ) → p < m → get_or xs p 0 ≡ h p)
    → (p : ℕ) → p < m + 32 → get_or (put_chunk m xs lanes) p 0 ≡ h p
filled-lanes xs lanes h m room long is before p l =
    elim (cases_lt p m) [
      | inl low ↦ get_or-put_chunk_below m xs lanes p 0 low ∙ before p low
      | inr high ↦
          let there : m + (p - m) ≡ p = omega arith in
          ap (λ q. get_or (put_chunk m xs lanes) q 0) (sym there) ∙ get_or-put_chunk_at m xs lanes (p - m) 0 (omega arith) (omega arith)
          ∙ is (p - m) (omega arith) ∙ ap h there
    ]

-- the masks of one bitmap more
pub masks-more : (masks x y z w bitmap bitmaps : List ℕ) (size v j apart : ℕ) → length masks ≡ 2048 → v < 16 → bitmap ≡ piece size bitmaps v
    → length x ≡ 32 → length y ≡ 32 → length z ≡ 32 → length w ≡ 32
    → ((k : ℕ) → k < 32 → get_or x k 0 ≡ 255 * bit_of bitmap j) → ((k : ℕ) → k < 32 → get_or y k 0 ≡ 255 * bit_of bitmap (j + apart))
    → ((k : ℕ) → k < 32 → get_or z k 0 ≡ 255 * bit_of bitmap (j + 2 * apart)) → ((k : ℕ) → k < 32 → get_or w k 0 ≡ 255 * bit_of bitmap (j + 3 * apart))
    → ((p : ℕ) → p < 128 * v → get_or masks p 0 ≡ mask_at bitmaps size j apart p)
    → (p : ℕ) → p < 128 * (v + 1)
    → get_or (put_chunk (128 * v + 96) (put_chunk (128 * v + 64) (put_chunk (128 * v + 32) (put_chunk (128 * v) masks x) y) z) w) p 0 ≡ mask_at bitmaps size j apart p
masks-more masks x y z w bitmap bitmaps size v j apart room few e lx ly lz lw is_x is_y is_z is_w before p l =
    let h = mask_at bitmaps size j apart in
    let one = put_chunk (128 * v) masks x in
    let two = put_chunk (128 * v + 32) one y in
    let three = put_chunk (128 * v + 64) two z in
    let long_one = length-put_chunk (128 * v) masks x in
    let long_two = length-put_chunk (128 * v + 32) one y in
    let long_three = length-put_chunk (128 * v + 64) two z in
    let at : (g q i : ℕ) → g < 4 → 128 * v + 32 * g ≤ q → q < 128 * v + 32 * g + 32 → i ≡ j + g * apart → 255 * bit_of bitmap i ≡ h q =
    λ g q i lg lo hi is.
    let block : v ≡ q / 128 = omega arith in
    let row : g ≡ q % 128 / 32 = omega arith in
    ap₂ (λ b i. 255 * bit_of b i) e is ∙ ap₂ (λ u r. 255 * bit_of (piece size bitmaps u) (j + r * apart)) block row in
    filled-lanes three w h (128 * v + 96) (omega arith) lw (λ k m. is_w k m ∙ at 3 _ _ (omega arith) (omega arith) (omega arith) (omega arith))
    (λ p l. filled-lanes two z h (128 * v + 64) (omega arith) lz (λ k m. is_z k m ∙ at 2 _ _ (omega arith) (omega arith) (omega arith) (omega arith))
    (λ p l. filled-lanes one y h (128 * v + 32) (omega arith) ly (λ k m. is_y k m ∙ at 1 _ _ (omega arith) (omega arith) (omega arith) (omega arith))
    (λ p l. filled-lanes masks x h (128 * v) (omega arith) lx (λ k m. is_x k m ∙ at 0 _ _ (omega arith) (omega arith) (omega arith) (omega arith))
    before p l) p (omega arith)) p (omega arith)) p (omega arith)

-- the masks that were set
pub masks-set : (masks bitmaps : List ℕ) (size n j apart : ℕ)
    → ((p : ℕ) → p < 128 * n → get_or masks p 0 ≡ mask_at bitmaps size j apart p) → AreMasks masks bitmaps size n j apart
masks-set masks bitmaps size n j apart are v g k l m o =
    let block : (128 * v + 32 * g + k) / 128 ≡ v = omega arith in
    let row : (128 * v + 32 * g + k) % 128 / 32 ≡ g = omega arith in
    are (128 * v + 32 * g + k) (omega arith) ∙ ap₂ (λ u r. 255 * bit_of (piece size bitmaps u) (j + r * apart)) block row
