-- What four rows give to the sums of several queries in blocks.
use Rattle.std.proofs.Common.{◌≡◌, ℕ, ◌+◌, ◌-◌, ◌*◌, ◌/◌, ◌%◌, ◌≤◌, ◌<◌, List, [], length, get_or, map, bit_xor, slice_index, slice_index_or, sym, ap, ap₂, ◌∙◌, arith}
use Rattle.std.specs.Simd.Lanes.{zip2, chunk, put_chunk}
use Rattle.std.proofs.lemmas.Nat.{div-mul-add, mod-mul-add, mod_below}
use Rattle.gf256.specs.Field.{◌⊕◌, ◌⊗◌}
use Rattle.gf256.specs.Rows.{IsAdded, AreLanes}
use Rattle.gf256.proofs.Added.{added-lanes}
use Rattle.gf256.proofs.LaneSums.{lanes-of, lanes-sum, lanes-times}
use Rattle.block_matrix.specs.Database.{Database}
use Rattle.row_workers.specs.Blocks.{block_start, column_at, query_at, laid_at, four_of}
use Rattle.row_workers.specs.declared.four_rows.FourRows.{FourRows}
use Rattle.server_product.specs.Queries.{entry}
use Rattle.server_product.specs.Blocks.{four_at, AreFactors}
use Rattle.row_workers.proofs.BlockSums.{query-is, column-is, column-within, lanes-from, plus_four}

-- the products of four rows with the factors of one query, added to one block
pub block-put : (lanes : ℕ) (acc old : List ℕ) (rows : FourRows) (factors xa xb xc xd pa pb pc pd : List ℕ) (n i v from start : ℕ)
    → 1 ≤ lanes → lanes ≤ length rows.a.now → length rows.b.now ≡ length rows.a.now → length rows.c.now ≡ length rows.a.now → length rows.d.now ≡ length rows.a.now
    → v < n → lanes * (i * n + v) + lanes ≤ length acc → from ≤ lanes * (i * n + v) → start ≡ block_start lanes (length rows.a.now) i
    → xa ≡ chunk start lanes rows.a.now → xb ≡ chunk start lanes rows.b.now → xc ≡ chunk start lanes rows.c.now → xd ≡ chunk start lanes rows.d.now
    → pa ≡ map (λ x. slice_index factors (4 * v) ⊗ x) xa → pb ≡ map (λ x. slice_index factors (4 * v + 1) ⊗ x) xb
    → pc ≡ map (λ x. slice_index factors (4 * v + 2) ⊗ x) xc → pd ≡ map (λ x. slice_index factors (4 * v + 3) ⊗ x) xd
    → IsAdded acc old (four_at lanes rows factors n) from (lanes * (i * n + v))
    → IsAdded (put_chunk (lanes * (i * n + v)) acc (zip2 bit_xor (zip2 bit_xor (zip2 bit_xor (zip2 bit_xor
    (chunk (lanes * (i * n + v)) lanes acc) pa) pb) pc) pd))
    old (four_at lanes rows factors n) from (lanes * (i * n + v) + lanes)
unfolding four_at
block-put lanes acc old rows factors xa xb xc xd pa pb pc pd n i v from start some wide eb ec ed few room begun is_start cut_a cut_b cut_c cut_d is_a is_b is_c is_d done =
    let a = rows.a.now in
    let b = rows.b.now in
    let c = rows.c.now in
    let d = rows.d.now in
    let width = length a in
    let at = lanes * (i * n + v) in
    let factor = λ (g : ℕ). slice_index factors (4 * v + g) in
    let inside : start + lanes ≤ width = omega arith in
    let one : (row xs ps : List ℕ) (f : ℕ) → start + lanes ≤ length row → xs ≡ chunk start lanes row → ps ≡ map (λ x. f ⊗ x) xs
    → AreLanes lanes ps (λ p. f ⊗ get_or row (start + (p - at)) 0) at =
    λ row xs ps f fits cut is.
    lanes-times (chunk start lanes row) ps _ f at (is ∙ ap (map (λ x. f ⊗ x)) cut) (lanes-from lanes row start at fits) in
    let of_a = one a xa pa (slice_index factors (4 * v)) inside cut_a is_a in
    let of_b = one b xb pb (factor 1) (omega (arith, inside, eb)) cut_b is_b in
    let of_c = one c xc pc (factor 2) (omega (arith, inside, ec)) cut_c is_c in
    let of_d = one d xd pd (factor 3) (omega (arith, inside, ed)) cut_d is_d in
    let sum = lanes-sum _ pd _ _ at (lanes-sum _ pc _ _ at (lanes-sum _ pb _ _ at (lanes-sum _ pa _ _ at (lanes-of lanes acc at room) of_a) of_b) of_c) of_d in
    added-lanes acc old _ (four_at lanes rows factors n) _ from at at room sum (omega arith) (omega arith) (omega arith)
    (λ k l m. absurd (omega (arith, l, m, begun)))
    (λ p l m h.
    let k = p - at in
    let small : k < lanes = omega (arith, l, h) in
    let place : p ≡ at + k = omega (arith, l) in
    let q = query-is lanes n i v k p few small place in
    let col = column-is lanes n i v k p few small place width in
    let there : start + k ≡ column_at lanes width n p = ap (λ s. s + k) is_start ∙ sym col in
    let term : (row : List ℕ) (g : ℕ) → slice_index factors (4 * v + g) ⊗ get_or row (start + k) 0
    ≡ slice_index factors (4 * query_at lanes n p + g) ⊗ get_or row (column_at lanes width n p) 0 =
    λ row g. ap₂ ◌⊗◌ (ap (λ u. get_or factors (4 * u + g) 0) (sym q)) (ap (λ j. get_or row j 0) there) in
    let first : slice_index factors (4 * v) ⊗ get_or a (start + k) 0 ≡ slice_index factors (4 * query_at lanes n p) ⊗ get_or a (column_at lanes width n p) 0 =
    ap₂ ◌⊗◌ (ap (λ u. get_or factors (4 * u) 0) (sym q)) (ap (λ j. get_or a j 0) there) in
    plus_four (get_or acc p 0) _ _ _ _
    ∙ ap₂ ◌⊕◌ (done.after p l) (ap₂ ◌⊕◌ (ap₂ ◌⊕◌ (ap₂ ◌⊕◌ first (term b 1)) (term c 2)) (term d 3)))
    done

-- four rows give what each of them gives
pub four-entries : (lanes : ℕ) (queries factors : List ℕ) (four : FourRows) (m : Database) (n j apart r p : ℕ)
    → 1 ≤ lanes → 1 ≤ n → lanes ≤ m.width → length four.a.now ≡ m.width → r ≡ length m.rows
    → four.a.now ≡ slice_index_or m.rows j [] → four.b.now ≡ slice_index_or m.rows (j + apart) []
    → four.c.now ≡ slice_index_or m.rows (j + 2 * apart) [] → four.d.now ≡ slice_index_or m.rows (j + 3 * apart) []
    → AreFactors factors queries r n j apart
    → four_at lanes four factors n p ≡ four_of (entry queries m.rows m.width (laid_at lanes m.width n p)) j apart
unfolding four_at entry
four-entries lanes queries factors four m n j apart r p lane some wide ew er ea eb ec ed held =
    let rows = m.rows in
    let w = length four.a.now in
    let v = query_at lanes n p in
    let few : v < n = mod_below (p / lanes) n (omega arith) in
    let col = column_at lanes m.width n p in
    let inside = column-within lanes m.width n p lane wide in
    let quotient = div-mul-add v m.width col inside in
    let rest = mod-mul-add v m.width col inside in
    let zero : 4 * v ≡ 4 * v + 0 = omega arith in
    let one : (g k : ℕ) (row : List ℕ) → g < 4 → j + g * apart ≡ k → row ≡ slice_index_or rows k []
    → slice_index factors (4 * v + g) ⊗ slice_index row (column_at lanes w n p)
    ≡ slice_index queries (laid_at lanes m.width n p / m.width * length rows + k) ⊗ slice_index (slice_index_or rows k []) (laid_at lanes m.width n p % m.width) =
    λ g k row l e is.
    ap₂ ◌⊗◌ (held v g few l ∙ ap₂ (λ r k. slice_index queries (v * r + k)) er e ∙ ap (λ u. slice_index queries (u * length rows + k)) (sym quotient))
    (ap₂ (λ xs w. slice_index xs (column_at lanes w n p)) is ew ∙ ap (slice_index (slice_index_or rows k [])) (sym rest)) in
    ap₂ ◌⊕◌ (ap₂ ◌⊕◌ (ap₂ ◌⊕◌
    (ap (λ x. slice_index factors x ⊗ slice_index four.a.now (column_at lanes w n p)) zero ∙ one 0 j four.a.now (omega arith) (omega arith) ea)
    (one 1 (j + apart) four.b.now (omega arith) (omega arith) eb))
    (one 2 (j + 2 * apart) four.c.now (omega arith) (omega arith) ec))
    (one 3 (j + 3 * apart) four.d.now (omega arith) (omega arith) ed)
