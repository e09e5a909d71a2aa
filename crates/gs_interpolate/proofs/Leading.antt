-- Leading monomials under sums with multiples and products with x - a.
use Rattle.std.proofs.Common.{◌≡◌, ◌⊎◌, ℕ, zero, suc, ◌+◌, ◌*◌, ◌<◌, ◌≤◌, List, [], length, get_or, sym, ap, ap₂, ◌∙◌, subst, arith, inl, inr, add-one, lit<}
use Rattle.std.proofs.Math.Nat.{mul-le-mul_right}
use Rattle.std.proofs.lemmas.Bool.{cases_lt, cases_eq}
use Rattle.std.proofs.lemmas.List.{get_or_past}
use Rattle.gf256.specs.Field.{◌⊕◌, ◌⊗◌}
use Rattle.gf256.proofs.Xor.{add_zero, add_lt}
use Rattle.gf256.proofs.FieldLaws.{mul_zero, zero_mul, mul_lt}
use Rattle.bi_poly.specs.Rows.{row, cell}
use Rattle.gs_interpolate.specs.Family.{member}
use Rattle.gs_interpolate.specs.Basis.{IsBefore, Leads, IsLed, IsWithMultiple, IsRaised, IsPowerRow}
use Rattle.gs_interpolate.proofs.Places.{cell-member}

-- what stands before one that stands before a third stands before the third
before-trans : (t i j k l m n : ℕ) → IsBefore t i j k l → IsBefore t k l m n → IsBefore t i j m n
before-trans t i j k l m n g h =
    elim g [
      | inl x ↦ elim h [ inl y ↦ inl (omega arith) | inr y ↦ inl (omega arith) ]
      | inr x ↦ elim h [ inl y ↦ inl (omega arith) | inr y ↦ inr (omega arith, omega arith) ]
    ]

-- one that stands before another is no heavier
lighter : (t i j k l : ℕ) → IsBefore t i j k l → i + t * j ≤ k + t * l
lighter t i j k l h = elim h [ inl x ↦ omega arith | inr x ↦ omega arith ]

-- nothing and a multiple of nothing
pub nothing : (x y c : ℕ) → x ≡ 0 → y ≡ 0 → x ⊕ c ⊗ y ≡ 0
nothing x y c e f = ap₂ (λ a b. a ⊕ c ⊗ b) e f ∙ ap (◌⊕◌ 0) (mul_zero c) ∙ add_zero 0

-- a multiple of nothing
same_with_nothing : (x y c : ℕ) → y ≡ 0 → x ⊕ c ⊗ y ≡ x
same_with_nothing x y c f = ap (λ b. x ⊕ c ⊗ b) f ∙ ap (◌⊕◌ x) (mul_zero c) ∙ add_zero x

-- the multiple of a polynomial whose leading monomial stands before
leads-added : (t c e j f k : ℕ) (s q p : List (List ℕ)) → Leads t q e j → Leads t p f k → IsBefore t f k e j → IsWithMultiple s q p c → Leads t s e j
leads-added t c e j f k s q p g h b sum = record {
  reached = λ z. g.reached (sym (sum j e ∙ same_with_nothing _ _ c (h.last j e b)) ∙ z);
  last = λ l i later. sum l i ∙ nothing _ _ c (g.last l i later) (h.last l i (before-trans t f k e j i l b later));
}

-- the product with x - a
leads-raised : (t a e j : ℕ) (s q : List (List ℕ)) → IsRaised s q a → Leads t q e j → Leads t s (suc e) j
leads-raised t a e j s q up g = record {
  reached = λ z.
      g.reached
      (sym (up.later j e ∙ ap (λ x. cell q j e ⊕ x ⊗ a) (g.last j (suc e) (inl (omega arith))) ∙ ap (◌⊕◌ (cell q j e)) (zero_mul a) ∙ add_zero _)
      ∙ z);
  last = λ k i. at k i;
}
  where
    at : (k i : ℕ) → IsBefore t (suc e) j i k → cell s k i ≡ 0
    at k zero later =
        up.first k ∙ ap (λ x. x ⊗ a) (g.last k 0 (elim later [ inl x ↦ inl (omega arith) | inr x ↦ inl (omega arith) ])) ∙ zero_mul a
    at k (suc i) later =
        up.later k i
        ∙ ap₂ (λ x y. x ⊕ y ⊗ a)
        (g.last k i (elim later [ inl x ↦ inl (omega arith) | inr x ↦ inr (omega arith, omega arith) ]))
        (g.last k (suc i) (elim later [ inl x ↦ inl (omega arith) | inr x ↦ inl (omega arith) ]))
        ∙ ap (◌⊕◌ 0) (zero_mul a) ∙ add_zero 0

-- with bytes as coefficients
pub led-added : (t c e j f k : ℕ) (s q p : List (List ℕ)) → IsLed t q e j → IsLed t p f k → IsBefore t f k e j → IsWithMultiple s q p c → IsLed t s e j
led-added t c e j f k s q p g h b sum = record {
  bytes = λ l i. subst (λ x. x < 256) (sym (sum l i)) (add_lt (cell q l i) (c ⊗ cell p l i) (g.bytes l i) (mul_lt c (cell p l i)));
  leads = leads-added t c e j f k s q p g.leads h.leads b sum;
}

-- the multiple by 0 of any polynomial
pub led-same : (t e j : ℕ) (s q p : List (List ℕ)) (c : ℕ) → IsLed t q e j → c ≡ 0 → IsWithMultiple s q p c → IsLed t s e j
led-same t e j s q p c g none sum =
    let same = λ (l i : ℕ). sum l i ∙ ap (λ x. cell q l i ⊕ x ⊗ cell p l i) none ∙ ap (◌⊕◌ (cell q l i)) (zero_mul (cell p l i)) ∙ add_zero (cell q l i) in
    let lead = g.leads in
    record {
      bytes = λ l i. subst (λ x. x < 256) (sym (same l i)) (g.bytes l i);
      leads = record {
        reached = λ z. lead.reached (sym (same j e) ∙ z);
        last = λ l i later. same l i ∙ lead.last l i later;
      };
    }

-- the product with x - a
pub led-raised : (t a e j : ℕ) (s q : List (List ℕ)) → IsLed t q e j → IsRaised s q a → IsLed t s (e + 1) j
led-raised t a e j s q g up = record {
  bytes = at;
  leads = subst (λ x. Leads t s x j) (sym (add-one e)) (leads-raised t a e j s q up g.leads);
}
  where
    at : (l i : ℕ) → cell s l i < 256
    at l zero = subst (λ x. x < 256) (sym (up.first l)) (mul_lt (cell q l 0) a)
    at l (suc i) = subst (λ x. x < 256) (sym (up.later l i)) (add_lt (cell q l i) (cell q l (suc i) ⊗ a) (g.bytes l i) (mul_lt (cell q l (suc i)) a))

-- the powers of y are led by themselves
module _ (t n : ℕ) (rows : List (List ℕ)) (wide : length rows ≤ n) (each : (j : ℕ) → j < length rows → IsPowerRow n (row rows j) j) where
  -- where there is a coefficient
  power_cell : (g j i : ℕ) → g < length rows → (cell (member n rows g) j i ≡ 0) ⊎ ((j ≡ g) × (i ≡ 0))
  power_cell g j i inside =
      elim (cases_lt j (length rows)) [
        | inl l ↦
            let power = each j l in
            elim (cases_eq (i * n + g) j) [
              | inl same ↦ elim (cases_eq i 0) [
                | inl none ↦ inr (let z = ap (λ i. i * n) none in omega (arith, same, z), none)
                | inr some ↦ let h = mul-le-mul_right n (let one : 1 ≤ i = omega (arith, some) in one) in absurd (omega (arith, h, same, l, wide))
              ]
              | inr other ↦ inl (cell-member n rows g j i (omega arith) ∙ power.others (i * n + g) other)
            ]
        | inr l ↦ inl (cell-member n rows g j i (omega arith) ∙ ap (λ r. get_or r (i * n + g) 0) (get_or_past rows j [] l))
      ]

  -- that at its own place is 1
  power_one : (g : ℕ) → g < length rows → cell (member n rows g) g 0 ≡ 1
  power_one g inside = let power = each g inside in cell-member n rows g g 0 (omega arith) ∙ ap (λ k. get_or (row rows g) k 0) (let e : 0 * n + g ≡ g = omega arith in e) ∙ power.one

  -- so it is led by its power of y
  pub led-power : (g : ℕ) → g < length rows → IsLed t (member n rows g) 0 g
  led-power g inside = record {
    bytes = λ j i. elim (power_cell g j i inside) [
      | inl z ↦ subst (λ x. x < 256) (sym z) (lit< tt)
      | inr at ↦ subst (λ x. x < 256) (sym (ap₂ (cell (member n rows g)) at.0 at.1 ∙ power_one g inside)) (lit< tt)
    ];
    leads = record {
      reached = λ z. let e = sym (power_one g inside) ∙ z in absurd (omega (arith, e));
      last = λ k i later. elim (power_cell g k i inside) [
        | inl z ↦ z
        | inr at ↦ let same = ap (λ y. t * y) at.0 in absurd (elim later [ inl x ↦ omega (arith, same, at.1) | inr x ↦ omega (arith, at.0) ])
      ];
    };
  }
