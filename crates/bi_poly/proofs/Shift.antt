-- The rows of q(x, x * y + gamma).
use Rattle.std.proofs.Common.{◌≡◌, ℕ, zero, suc, ◌+◌, ◌-◌, ◌<◌, ◌≤◌, List, [], ◌∷◌, ◌++◌, map, length, take, replicate, get_or, refl, sym, ap, ap₂, ◌∙◌, arith, inl, inr, zero-add, length-append, ext_get_or}
use Rattle.std.specs.List.{range_with_len}
use Rattle.std.proofs.lemmas.Bool.{cases_lt}
use Rattle.std.proofs.lemmas.List.{take_all, get_or_past, get_or-map, length-map, get_or-replicate, length-replicate, get_or_append_left, get_or-append_right}
use Rattle.std.proofs.lemmas.List.FromFn.{get_or-map-range_with_len, length-map-range_with_len}
use Rattle.gf256.specs.Field.{◌⊕◌, ◌⊗◌, power as field_power}
use Rattle.gf256.specs.Polynomial.{coef}
use Rattle.gf256.proofs.Xor.{zero_add, add_assoc}
use Rattle.gf256.proofs.FieldLaws.{mul_zero, mul_comm}
use Rattle.uni_poly.specs.Taylor.{taylor}
use Rattle.uni_poly.proofs.Taylor.{taylor-same}
use Rattle.bi_poly.specs.Rows.{row, cell, column, IsWidth}
use Rattle.bi_poly.specs.Hasse.{binomial_parity}
use Rattle.bi_poly.specs.Substitution.{IsShiftedRoot, shifted_row}
use Rattle.bi_poly.proofs.Derivatives.{derivative_to, derivative_to-odd}
use Rattle.bi_poly.proofs.Degree.{cell-past}

-- past its length a Taylor series is 0
pub taylor-past : (p : List ℕ) (a u : ℕ) → length p ≤ u → taylor p a u ≡ 0
unfolding taylor
taylor-past [] a u l = refl
taylor-past (c ∷ p) a zero l = absurd (omega arith)
taylor-past (c ∷ p) a (suc u) l =
    ap₂ ◌⊕◌ (taylor-past p a u (omega arith)) (ap (◌⊗◌ a) (taylor-past p a (suc u) (omega arith)) ∙ mul_zero a) ∙ zero_add 0

-- a column past all rows is 0
pub column-past : (q : List (List ℕ)) (i j : ℕ) → ((k : ℕ) → length (row q k) ≤ i) → coef (column q i) j ≡ 0
unfolding coef
column-past q i j h =
    elim (cases_lt j (length q)) [
      | inl within ↦ get_or-map (λ r. coef r i) q j [] 0 within ∙ get_or_past (row q j) i 0 (h j)
      | inr past ↦ let size = length-map q (λ r. coef r i) in get_or_past (column q i) j 0 (omega arith)
    ]

-- so is its Taylor series
taylor-column_past : (q : List (List ℕ)) (gamma i j : ℕ) → ((k : ℕ) → length (row q k) ≤ i) → taylor (column q i) gamma j ≡ 0
unfolding coef
taylor-column_past q gamma i j h =
    taylor-same (column q i) [] gamma j (λ e. column-past q i e h ∙ sym (get_or_past [] e 0 (omega arith))) ∙ taylor-past [] gamma j (omega arith)

module _ (q s : List (List ℕ)) (width gamma : ℕ) (w : IsWidth q width) (h : s ≡ map (shifted_row q width gamma) (range_with_len 0 (length q))) where
  -- as many rows as q
  rows : length s ≡ length q
  rows = ap length h ∙ length-map-range_with_len (shifted_row q width gamma) 0 (length q)

  -- each row
  at : (j : ℕ) → j < length q → row s j ≡ shifted_row q width gamma j
  at j l = ap (λ s. row s j) h ∙ get_or-map-range_with_len (shifted_row q width gamma) 0 (length q) j j [] l (zero-add j)

  -- the coefficients below the diagonal
  low : (j i : ℕ) → i < j → cell s j i ≡ 0
  unfolding cell coef
  low j i l =
      elim (cases_lt j (length q)) [
        | inl within ↦
            let size = length-replicate {A = ℕ} j 0 in
            ap (λ r. coef r i) (at j within)
            ∙ get_or_append_left (replicate j 0) (map (λ i. taylor (column q i) gamma j) (range_with_len 0 width)) 0 i (omega arith)
            ∙ get_or-replicate j i 0 0 l
        | inr past ↦ cell-past s j i (omega (arith, rows))
      ]

  -- a derivative of a column
  derivative-at : (i j : ℕ) → get_or (map (λ i. taylor (column q i) gamma j) (range_with_len 0 width)) i 0 ≡ taylor (column q i) gamma j
  derivative-at i j =
      elim (cases_lt i width) [
        | inl within ↦ get_or-map-range_with_len (λ i. taylor (column q i) gamma j) 0 width i i 0 within (zero-add i)
        | inr past ↦
            let size = length-map-range_with_len (λ i. taylor (column q i) gamma j) 0 width in
            get_or_past (map (λ i. taylor (column q i) gamma j) (range_with_len 0 width)) i 0 (omega arith)
            ∙ sym (taylor-column_past q gamma i j (λ k. let enough = w.enough k in omega arith))
      ]

  -- the others
  each : (j i : ℕ) → cell s j (i + j) ≡ taylor (column q i) gamma j
  unfolding cell coef
  each j i =
      elim (cases_lt j (length q)) [
        | inl within ↦
            let e : i + j - j ≡ i = omega arith in
            ap (λ r. coef r (i + j)) (at j within)
            ∙ get_or-append_right (replicate j 0) (map (λ i. taylor (column q i) gamma j) (range_with_len 0 width)) j (i + j) 0 (length-replicate j 0) (omega arith)
            ∙ ap (λ k. get_or (map (λ i. taylor (column q i) gamma j) (range_with_len 0 width)) k 0) e
            ∙ derivative-at i j
        | inr past ↦
            let size = length-map q (λ r. coef r i) in
            cell-past s j (i + j) (omega (arith, rows)) ∙ sym (taylor-past (column q i) gamma j (omega arith))
      ]

  -- the lengths
  size : (j n : ℕ) → ((k : ℕ) → length (row q k) ≤ n) → length (row s j) ≤ n + j
  size j n l =
      elim (cases_lt j (length q)) [
        | inl within ↦
            let e = ap length (at j within) ∙ length-append (replicate j 0) (map (λ i. taylor (column q i) gamma j) (range_with_len 0 width)) in
            let zeros = length-replicate {A = ℕ} j 0 in
            let more = length-map-range_with_len (λ i. taylor (column q i) gamma j) 0 width in
            let least = w.least n l in
            omega arith
        | inr past ↦ let e = ap length (get_or_past s j [] (omega (arith, rows))) in omega arith
      ]

  -- the rows are those of q(x, x * y + gamma)
  pub shifted_root : IsShiftedRoot q gamma s
  shifted_root = record { rows = rows; each = each; low = low; size = size }

-- the derivatives of the columns, from place 0 on
pub derivatives-are : (q : List (List ℕ)) (sums : List ℕ) (width gamma j : ℕ) → length sums ≡ width
    → ((i : ℕ) → get_or sums i 0 ≡ taylor (column q i) gamma j) → sums ≡ map (λ i. taylor (column q i) gamma j) (range_with_len 0 width)
derivatives-are q sums width gamma j size each =
    let long = length-map-range_with_len (λ i. taylor (column q i) gamma j) 0 width in
    ext_get_or 0 sums (map (λ i. taylor (column q i) gamma j) (range_with_len 0 width)) (size ∙ sym long)
    (λ i l. each i ∙ sym (get_or-map-range_with_len (λ i. taylor (column q i) gamma j) 0 width i i 0 (omega (arith, l, size)) (zero-add i)))

-- one row more, in one column: a multiple of its coefficient, where the binomial is odd
pub derivative-row_odd : (q : List (List ℕ)) (gamma j k i x power : ℕ) → k < length q → binomial_parity k j ≡ 1 → power ≡ field_power gamma (k - j)
    → x ⊕ derivative_to (column q i) gamma j (k + 1) ≡ (x ⊕ derivative_to (column q i) gamma j k) ⊕ power ⊗ coef (row q k) i
unfolding coef
derivative-row_odd q gamma j k i x power l odd is =
    ap (◌⊕◌ x)
    (derivative_to-odd (column q i) gamma j k odd
    ∙ ap (◌⊕◌ (derivative_to (column q i) gamma j k)) (ap₂ ◌⊗◌ (get_or-map (λ r. coef r i) q k [] 0 l) (sym is) ∙ mul_comm _ power))
    ∙ sym (add_assoc x _ _)

-- an empty list that was made longer by zeros
pub filled : (made old : List ℕ) (n len : ℕ) → old ≡ [] → len ≡ 0 → made ≡ take n old ++ replicate (n - len) 0 → made ≡ replicate n 0
filled made old n len none size is =
    let long = ap length none in
    is ∙ ap₂ ◌++◌ (take_all n old (omega (arith, long)) ∙ none) (ap (λ k. replicate k 0) (let e : n - len ≡ n = omega (arith, size) in e))
