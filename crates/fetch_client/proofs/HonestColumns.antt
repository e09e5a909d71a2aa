-- In each column honest answers lie on one polynomial, whose constant is the block's byte there.
use Rattle.std.proofs.Common.{◌≡◌, ◌≢◌, ℕ, ◌+◌, ◌*◌, ◌<◌, List, [], length, map, drop, get_or, cond, refl, sym, ap, ap₂, ◌∙◌, arith, inl, inr}
use Rattle.std.specs.List.{range_with_len}
use Rattle.std.proofs.lemmas.List.{ext_get_or, length-take-le, length-drop}
use Rattle.std.proofs.lemmas.List.FromFn.{length-map-range_with_len, get_or-map-range_with_len}
use Rattle.std.proofs.lemmas.Bool.Decides.{eqb_tells}
use Rattle.std.proofs.lemmas.Simd.{map-map}
use Rattle.gf256.specs.Field.{◌⊗◌}
use Rattle.gf256.specs.Sums.{sum_to}
use Rattle.gf256.specs.Polynomial.{coef, val, IsPolynomial}
use Rattle.gf256.specs.Product.{IsMatrix, product_at, product}
use Rattle.gf256.proofs.FieldLaws.{one_mul, zero_mul}
use Rattle.gf256.proofs.Sums.{sum_to-same, sum_to-one}
use Rattle.uni_poly.proofs.Coefficients.{IsBytes-from_all}
use Rattle.gf256.proofs.FlatRows.{row_within}
use Rattle.shamir_share.specs.Query.{query, row_polynomial, row_coins}
use Rattle.shamir_share.proofs.Rows.{length-row_coins}
use Rattle.share_bytes.specs.Share.{position_polynomial}
use Rattle.share_bytes.proofs.ProductSums.{product_sum, degree-product_sum, val-product_sum, constant-product_sum}
use Rattle.fetch_client.specs.Held.{block_of, bytes_of, held_by}
use Rattle.fetch_client.proofs.HeldRows.{byte_of, held_at, held_is_matrix, place_within}

-- ---- the polynomials of the rows

-- each has its constant and t coins
length-row_polynomial : (coins : List ℕ) (t r block j : ℕ) → length coins ≡ r * t → j < r → length (row_polynomial coins t block j) ≡ t + 1
unfolding row_polynomial row_coins
length-row_polynomial coins t r block j size l =
    let inside = row_within j r t l in
    let rest = length-drop (j * t) coins in
    let own = length-take-le t (drop (j * t) coins) (omega (arith, inside, rest, size)) in
    omega (arith, own)

-- the constant is 1 at the block
constant_at_block : (coins : List ℕ) (t block : ℕ) → coef (row_polynomial coins t block block) 0 ≡ 1
unfolding row_polynomial coef
constant_at_block coins t block =
    elim (eqb_tells block block) [
      | inl same ↦ ap (λ b. cond b 1 0) same.0
      | inr other ↦ absurd (other.1 refl)
    ]

-- and 0 elsewhere
constant_elsewhere : (coins : List ℕ) (t block j : ℕ) → j ≢ block → coef (row_polynomial coins t block j) 0 ≡ 0
unfolding row_polynomial coef
constant_elsewhere coins t block j differ =
    elim (eqb_tells j block) [
      | inl same ↦ absurd (differ same.1)
      | inr other ↦ ap (λ b. cond b 1 0) other.0
    ]

-- ---- the polynomials of the columns

-- the polynomials of the bytes of column c, one for each row
abbrev pub cells : List (List ℕ) → ℕ → List ℕ → ℕ → ℕ → ℕ → List ℕ
cells matrix tau share_coins s c j = position_polynomial (bytes_of matrix) share_coins tau (j * s + c)

-- that of column c: the rows' polynomials, each times that of the byte of its row
pub column_of : List (List ℕ) → ℕ → List ℕ → List ℕ → ℕ → ℕ → ℕ → ℕ → ℕ → List ℕ
column_of matrix tau share_coins coins t r s block c =
    product_sum (row_polynomial coins t block) (cells matrix tau share_coins s c) r t tau

module _ (matrix : List (List ℕ)) (tau : ℕ) (share_coins coins : List ℕ) (t r s block : ℕ) where
  pub degree-column_of : (c : ℕ) → IsPolynomial (t + tau) (column_of matrix tau share_coins coins t r s block c)
  unfolding column_of
  degree-column_of c = degree-product_sum (row_polynomial coins t block) (cells matrix tau share_coins s c) r t tau

  module _ (is : IsMatrix matrix r s) (shared : length share_coins ≡ r * s * tau) (size : length coins ≡ r * t) where
    length-cell : (c j : ℕ) → c < s → j < r → length (cells matrix tau share_coins s c j) ≡ tau + 1
    unfolding position_polynomial
    length-cell c j in_row low =
        let room = row_within (j * s + c) (r * s) tau (place_within matrix r s is j c low in_row) in
        let own = length-row_coins share_coins tau (j * s + c) (omega (arith, room, shared)) in
        omega (arith, own)

    -- at an index it takes the byte of the answer of the honest server with this index
    val-column_of : (c a : ℕ) → c < s
        → val (column_of matrix tau share_coins coins t r s block c) a ≡ product_at (query coins t r block a) (held_by tau matrix s share_coins a) c
    unfolding column_of product_at query
    val-column_of c a in_row =
        let held = held_by tau matrix s share_coins a in
        let rows = row_polynomial coins t block in
        let n = (held_is_matrix matrix share_coins r s is tau a).rows in
        val-product_sum rows (cells matrix tau share_coins s c) r t tau (λ j low. length-row_polynomial coins t r block j size low) (λ j low. length-cell c j in_row low) a
        ∙ sum_to-same (λ j. val (rows j) a ⊗ val (cells matrix tau share_coins s c j) a) (λ j. get_or (query coins t r block a) j 0 ⊗ get_or (get_or held j []) c 0) r
        (λ j low.
        ap₂ ◌⊗◌ (sym (get_or-map-range_with_len (λ j. val (rows j) a) 0 r j j 0 low (omega arith))) (sym (held_at matrix share_coins r s is tau j c a low in_row)))
        ∙ ap (sum_to (λ j. get_or (query coins t r block a) j 0 ⊗ get_or (get_or held j []) c 0)) (sym n)

    -- so at an index the columns' polynomials take the honest answer
    pub reply_is : (a : ℕ)
        → map (λ p. val p a) (map (column_of matrix tau share_coins coins t r s block) (range_with_len 0 s)) ≡ product (held_by tau matrix s share_coins a) s (query coins t r block a)
    unfolding product
    reply_is a =
        let value : ℕ → ℕ = λ c. val (column_of matrix tau share_coins coins t r s block c) a in
        let byte = product_at (query coins t r block a) (held_by tau matrix s share_coins a) in
        let long = length-map-range_with_len value 0 s in
        map-map (λ p. val p a) (column_of matrix tau share_coins coins t r s block) (range_with_len 0 s)
        ∙ ext_get_or 0 (map value (range_with_len 0 s)) (map byte (range_with_len 0 s)) (long ∙ sym (length-map-range_with_len byte 0 s)) (λ c l.
        let in_row : c < s = omega (arith, l, long) in
        get_or-map-range_with_len value 0 s c c 0 in_row (omega arith) ∙ val-column_of c a in_row
        ∙ sym (get_or-map-range_with_len byte 0 s c c 0 in_row (omega arith)))

    -- its constant is the block's byte
    pub constant-column_of : block < r → (c : ℕ) → c < s → coef (column_of matrix tau share_coins coins t r s block c) 0 ≡ get_or (block_of matrix block) c 0
    unfolding column_of coef position_polynomial
    constant-column_of within c in_row =
        let n = is.rows in
        let rows = row_polynomial coins t block in
        let own = byte_of matrix r s is block c within in_row in
        constant-product_sum rows (cells matrix tau share_coins s c) r t tau (λ j low. length-row_polynomial coins t r block j size low) (λ j low. length-cell c j in_row low)
        ∙ sum_to-one (λ j. coef (rows j) 0 ⊗ coef (cells matrix tau share_coins s c j) 0) r block within
        (λ j low other. ap (λ v. v ⊗ coef (cells matrix tau share_coins s c j) 0) (constant_elsewhere coins t block j other) ∙ zero_mul (coef (cells matrix tau share_coins s c j) 0))
        ∙ ap₂ ◌⊗◌ (constant_at_block coins t block) own
        ∙ one_mul (get_or (block_of matrix block) c 0) (IsBytes-from_all (block_of matrix block) (is.bytes block [] (omega (arith, within, n))) c)
