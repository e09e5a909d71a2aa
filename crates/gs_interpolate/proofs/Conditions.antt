-- The conditions of zeros, in the order in which they are made.
use Rattle.std.proofs.Common.{◌≡◌, ℕ, zero, suc, ◌+◌, ◌-◌, ◌*◌, ◌/◌, ◌<◌, ◌⊎◌, List, [], ◌∷◌, ◌++◌, length, get_or, Contains, refl, sym, ap, ap₂, subst, ◌∙◌, arith, inl, inr, add-one, append_assoc, length-append}
use Rattle.std.specs.List.{flat_map}
use Rattle.std.proofs.lemmas.Bool.{cases_lt}
use Rattle.std.proofs.lemmas.List.Elements.{Contains-append_left, Contains-append_right, Contains-push}
use Rattle.gf256.specs.Field.{◌⊗◌, power}
use Rattle.gf256.proofs.FieldLaws.{ring, zero_mul, mul_zero}
use Rattle.bi_poly.specs.Hasse.{binomial_parity}
use Rattle.gs_interpolate.specs.Conditions.{AreConditions, derivative_of}
use Rattle.gs_interpolate.specs.declared.condition.Condition.{Condition}

-- the first n of the conditions whose derivatives have the total order s
unfoldable pub of_order : ℕ → ℕ → ℕ → ℕ → List Condition
of_order a b s zero = []
of_order a b s (suc n) = of_order a b s n ++ record { u = n; v = s - n; a = a; b = b } ∷ []

-- those whose derivatives have a total order below s
unfoldable pub below_order : ℕ → ℕ → ℕ → List Condition
below_order a b zero = []
below_order a b (suc s) = below_order a b s ++ of_order a b s (suc s)

-- one more of an order
pub of_order-next : (base items : List Condition) (a b s n : ℕ) → items ≡ base ++ of_order a b s n
    → items ++ record { u = n; v = s - n; a = a; b = b } ∷ [] ≡ base ++ of_order a b s (n + 1)
unfolding of_order
of_order-next base items a b s n e =
    ap (λ xs. xs ++ record { u = n; v = s - n; a = a; b = b } ∷ []) e
    ∙ append_assoc base (of_order a b s n) _
    ∙ ap (λ k. base ++ of_order a b s k) (sym (add-one n))

-- one more order
pub below_order-next : (base before items : List Condition) (a b s n : ℕ) → before ≡ base ++ below_order a b s → n ≡ s
    → items ≡ before ++ of_order a b s (n + 1) → items ≡ base ++ below_order a b (s + 1)
unfolding below_order
below_order-next base before items a b s n e same f =
    f ∙ ap₂ (λ xs k. xs ++ of_order a b s k) e (ap (λ k. k + 1) same ∙ add-one s)
    ∙ append_assoc base (below_order a b s) _
    ∙ ap (λ k. base ++ below_order a b k) (sym (add-one s))

-- those of a zero of multiplicity m at a point
abbrev pub at_point : ℕ → ℕ × ℕ → List Condition
at_point m p = below_order p.0 p.1 m

-- how many there are of one order
length-of_order : (a b s n : ℕ) → length (of_order a b s n) ≡ n
unfolding of_order
length-of_order a b s zero = refl
length-of_order a b s (suc n) =
    let ih = length-of_order a b s n in
    omega (arith, length-append {A = Condition})

-- how many there are at one point
length-below_order : (a b s : ℕ) → 2 * length (below_order a b s) ≡ s * (s + 1)
unfolding below_order
length-below_order a b zero = refl
length-below_order a b (suc s) =
    let ih = length-below_order a b s in
    let e = length-append (below_order a b s) (of_order a b s (suc s)) in
    let f = length-of_order a b s (suc s) in
    omega arith

-- and at all of them
twice_all : (m : ℕ) (points : List (ℕ × ℕ)) → 2 * length (flat_map (at_point m) points) ≡ length points * m * (m + 1)
twice_all m [] = omega arith
twice_all m (p ∷ points) =
    let ih = twice_all m points in
    let e = length-append (at_point m p) (flat_map (at_point m) points) in
    let f = length-below_order p.0 p.1 m in
    omega arith

-- what has the order s is among its conditions
contains-of_order : (a b s n u v : ℕ) → u < n → u + v ≡ s → Contains (of_order a b s n) (record { u = u; v = v; a = a; b = b })
unfolding of_order
contains-of_order a b s zero u v l e = absurd (omega arith)
contains-of_order a b s (suc n) u v l e =
    let last : Condition = record { u = n; v = s - n; a = a; b = b } in
    elim (cases_lt u n) [
      | inl h ↦ Contains-append_left (of_order a b s n) (last ∷ []) _ (contains-of_order a b s n u v h e)
      | inr h ↦
          let p : n ≡ u = omega arith in
          let q : s - n ≡ v = omega arith in
          subst (λ x. Contains (of_order a b s n ++ last ∷ []) (record { u = x; v = v; a = a; b = b })) p
          (subst (λ y. Contains (of_order a b s n ++ last ∷ []) (record { u = n; v = y; a = a; b = b })) q
          (Contains-push (of_order a b s n) last))
    ]

-- what has an order below s is among the conditions
contains-below_order : (a b s u v : ℕ) → u + v < s → Contains (below_order a b s) (record { u = u; v = v; a = a; b = b })
unfolding below_order
contains-below_order a b zero u v l = absurd (omega arith)
contains-below_order a b (suc s) u v l =
    elim (cases_lt (u + v) s) [
      | inl h ↦ Contains-append_left (below_order a b s) (of_order a b s (suc s)) _ (contains-below_order a b s u v h)
      | inr h ↦ Contains-append_right (below_order a b s) (of_order a b s (suc s)) _ (contains-of_order a b s (suc s) u v (omega arith) (omega arith))
    ]

-- the conditions of each point are among all
contains-all : (m : ℕ) (points : List (ℕ × ℕ)) (k : ℕ) (d : ℕ × ℕ) (c : Condition) → k < length points
    → Contains (at_point m (get_or points k d)) c → Contains (flat_map (at_point m) points) c
contains-all m [] k d c l h = absurd (omega arith)
contains-all m (p ∷ points) zero d c l h = Contains-append_left (at_point m p) (flat_map (at_point m) points) c h
contains-all m (p ∷ points) (suc k) d c l h =
    Contains-append_right (at_point m p) (flat_map (at_point m) points) c (contains-all m points k d c (omega arith) h)

-- half of both sides
halved : (x y : ℕ) → 2 * x ≡ y → x ≡ y / 2
halved x y e = omega arith

-- so they are the conditions of zeros of multiplicity m at the points
pub all_conditions : (m : ℕ) (points : List (ℕ × ℕ)) → AreConditions points m (flat_map (at_point m) points)
all_conditions m points = record {
  count = halved _ _ (twice_all m points);
  each = λ k d l u v h. contains-all m points k d _ l (contains-below_order _ _ m u v h);
}

-- where a binomial is even, the derivative is 0
pub derivative_of-even : (c : Condition) (i j : ℕ) → (binomial_parity i c.u ≡ 0) ⊎ (binomial_parity j c.v ≡ 0) → 0 ≡ derivative_of c i j
unfolding derivative_of
derivative_of-even c i j h =
    let powers = power c.a (i - c.u) ⊗ power c.b (j - c.v) in
    elim h [
      | inl e ↦ sym (ap (λ x. x ⊗ binomial_parity j c.v ⊗ powers) e ∙ ap (λ x. x ⊗ powers) (zero_mul _) ∙ zero_mul powers)
      | inr e ↦ sym (ap (λ x. binomial_parity i c.u ⊗ x ⊗ powers) e ∙ ap (λ x. x ⊗ powers) (mul_zero _) ∙ zero_mul powers)
    ]

-- where both are odd, it is the product of the powers
pub derivative_of-odd : (c : Condition) (i j : ℕ) → binomial_parity i c.u ≡ 1 → binomial_parity j c.v ≡ 1
    → power c.a (i - c.u) ⊗ power c.b (j - c.v) ≡ derivative_of c i j
unfolding derivative_of
derivative_of-odd c i j e f =
    let powers = power c.a (i - c.u) ⊗ power c.b (j - c.v) in
    sym (ap₂ (λ x y. x ⊗ y ⊗ powers) e f ∙ simp ring)
