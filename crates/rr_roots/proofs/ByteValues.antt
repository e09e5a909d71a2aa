-- The values of a polynomial at all bytes, term by term.
use Rattle.std.proofs.Common.{◌≡◌, ◌≢◌, ℕ, ◌+◌, ◌-◌, ◌<◌, List, [], ◌∷◌, ◌++◌, length, get_or, refl, sym, ap, ◌∙◌, arith, inl, inr, add-one, length-append}
use Rattle.std.proofs.lemmas.Bool.{cases_lt}
use Rattle.std.proofs.lemmas.List.{get_or_append_left, get_or-append_right}
use Rattle.gf256.specs.Field.{◌⊕◌, ◌⊗◌, power}
use Rattle.gf256.specs.Sums.{sum_to}
use Rattle.gf256.specs.Polynomial.{coef, val}
use Rattle.bi_poly.specs.Rows.{row}
use Rattle.rr_roots.specs.Values.{ArePowers, AreValues}

-- the sum of the first n terms of the value at g
unfoldable pub value_to : List ℕ → ℕ → ℕ → ℕ
value_to p g n = sum_to (λ e. coef p e ⊗ power g e) n

-- none yet
pub value_to-none : (p : List ℕ) (g : ℕ) → value_to p g 0 ≡ 0
unfolding value_to sum_to
value_to-none p g = refl

-- one more
pub value_to-next : (p : List ℕ) (g n : ℕ) → value_to p g (n + 1) ≡ value_to p g n ⊕ coef p n ⊗ power g n
unfolding value_to sum_to
value_to-next p g n = ap (sum_to (λ e. coef p e ⊗ power g e)) (add-one n)

-- all
pub value_to-all : (p : List ℕ) (g n : ℕ) → n ≡ length p → value_to p g n ≡ val p g
unfolding value_to val
value_to-all p g n e = ap (sum_to (λ e. coef p e ⊗ power g e)) e

-- the next power
pub power-more : (g n : ℕ) → power g (n + 1) ≡ g ⊗ power g n
unfolding power
power-more g n = ap (power g) (add-one n)

-- the power with the exponent 0
pub power-none : (g : ℕ) → power g 0 ≡ 1
unfolding power
power-none g = refl

-- no rows
pub powers-none : ArePowers []
powers-none = record { size = λ e l. absurd (omega arith); each = λ e g l m. absurd (omega arith) }

-- one more row of powers
pub powers-more : (rows : List (List ℕ)) (new : List ℕ) (n : ℕ) → length rows ≡ n → ArePowers rows → length new ≡ 256
    → ((g : ℕ) → g < 256 → get_or new g 0 ≡ power g n) → ArePowers (rows ++ new ∷ [])
powers-more rows new n count before size each = record {
  size = λ e l.
      elim (cases_lt e n) [
        | inl low ↦ ap length (old e low) ∙ before.size e (omega arith)
        | inr high ↦ ap length (last e (omega (arith, l, high, length-append rows (new ∷ [])))) ∙ size
      ];
  each = λ e g l m.
      elim (cases_lt e n) [
        | inl low ↦ ap (λ r. get_or r g 0) (old e low) ∙ before.each e g (omega arith) m
        | inr high ↦
            let same : e ≡ n = omega (arith, l, high, count, length-append rows (new ∷ [])) in
            ap (λ r. get_or r g 0) (last e same) ∙ each g m ∙ ap (power g) (sym same)
      ];
}
  where
    old : (e : ℕ) → e < n → row (rows ++ new ∷ []) e ≡ row rows e
    old e l = get_or_append_left rows (new ∷ []) [] e (omega arith)

    last : (e : ℕ) → e ≡ n → row (rows ++ new ∷ []) e ≡ new
    last e same =
        get_or-append_right rows (new ∷ []) n e [] count (omega arith)
        ∙ (let z : e - n ≡ 0 = omega arith in ap (λ k. get_or (new ∷ []) k []) z)

-- the value that was tested is 0 exactly where the polynomial is
pub value-zero : {values p : List ℕ} (g : ℕ) → AreValues values p → g < 256 → get_or values g 0 ≡ 0 → val p g ≡ 0
value-zero g are l zero = sym (are.each g l) ∙ zero

pub value-other : {values p : List ℕ} (g : ℕ) → AreValues values p → g < 256 → get_or values g 0 ≢ 0 → val p g ≢ 0
value-other g are l other z = other (are.each g l ∙ z)
