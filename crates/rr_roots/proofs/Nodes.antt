-- How many nodes are below a node, from its children's counts (Roth and Ruckenstein 2000).
use Rattle.std.proofs.Common.{◌≡◌, ◌≢◌, ℕ, zero, suc, ◌+◌, ◌-◌, ◌*◌, ◌<◌, ◌≤◌, List, inl, inr, sym, ap, subst, ◌∙◌, arith, mul-le-mul_left}
use Rattle.std.proofs.Math.Nat.{mul-add, add-mul}
use Rattle.std.proofs.lemmas.Bool.{cases_lt}
use Rattle.gf256.specs.Polynomial.{coef, val}
use Rattle.bi_poly.specs.Rows.{column}
use Rattle.rr_roots.specs.Descent.{IsRootOfSize, HasLowestColumnDegreeAtMost, IsStripped}
use Rattle.rr_roots.proofs.Multiplicities.{multiplicity, multiplicity_root, roots_below, roots_below-more, roots_below-le}
use Rattle.rr_roots.proofs.Children.{constants-bytes, constants-nonzero, constants-degree, begins_with_root}

-- a node counted, and those below it
pub counted : (start now child more : ℕ) → start ≤ now → child ≡ now + 1 → child ≤ more → start ≤ more
counted start now child more up tick rise = omega (arith, up, tick, rise)

-- a root takes a step for each coefficient that is left, at this child or before it
pub nodes-least : (left start now child more old before new : ℕ) → 0 < left → start ≤ now → child ≡ now + 1 → child ≤ more
    → (old < before → start + left ≤ now) → (before < new → child + (left - 1) ≤ more) → old < new → start + left ≤ more
nodes-least left start now child more old before new some up tick rise earlier here found = elim (cases_lt before new) [
  | inl more_roots ↦ omega (arith, some, up, tick, here more_roots)
  | inr none ↦ omega (arith, tick, rise, earlier (omega (arith, found, none)))
]

-- a child's nodes, and itself
one_more : (left start now child more roots often : ℕ) → 0 < left → 1 ≤ often → now ≤ start + left * roots → child ≡ now + 1 → more ≤ child + (left - 1) * often → more ≤ start + left * (often + roots)
one_more left start now child more roots often some once h tick m =
    let one : left ≡ left - 1 + 1 = omega arith in
    let share = ap (λ n. n * often) one ∙ add-mul (left - 1) 1 often in
    omega (arith, h, tick, m, mul-add left often roots, share)

module _ {whole q : List (List ℕ)} {r : ℕ} (s : IsStripped whole q r) where
  -- no y-root begins with g where g is no root of them
  pub none_begins : (n g : ℕ) → 0 < n → val (column q 0) g ≢ 0 → (phi : List ℕ) → IsRootOfSize whole n phi → coef phi 0 ≡ g → ⊥
  none_begins n g some other phi h e = other (ap (val (column q 0)) (sym e) ∙ begins_with_root s n phi some h)

  -- the nodes below g are at most those below g + 1
  nodes-skip : (left start now g : ℕ) → now ≤ start + left * roots_below (column q 0) g → now ≤ start + left * roots_below (column q 0) (g + 1)
  nodes-skip left start now g h =
      let most : left * roots_below (column q 0) g ≤ left * roots_below (column q 0) (g + 1) = mul-le-mul_left left (omega (arith, roots_below-more (column q 0) g)) in
      omega (arith, h, most)

  -- and those below any later byte
  nodes-further : (left start now from n : ℕ) → now ≤ start + left * roots_below (column q 0) from → now ≤ start + left * roots_below (column q 0) (from + n)
  nodes-further left start now from zero h = subst (λ g. now ≤ start + left * roots_below (column q 0) g) (let same : from ≡ from + 0 = omega arith in same) h
  nodes-further left start now from (suc n) h =
      subst (λ g. now ≤ start + left * roots_below (column q 0) g) (let same : from + n + 1 ≡ from + suc n = omega arith in same)
      (nodes-skip left start now (from + n) (nodes-further left start now from n h))

  pub nodes-skips : (left start now from to : ℕ) → from ≤ to → now ≤ start + left * roots_below (column q 0) from → now ≤ start + left * roots_below (column q 0) to
  nodes-skips left start now from to up h =
      subst (λ g. now ≤ start + left * roots_below (column q 0) g) (let same : from + (to - from) ≡ to = omega (arith, up) in same)
      (nodes-further left start now from (to - from) h)

  -- with a root g and the nodes below it
  pub nodes-more : (left start now child more g : ℕ) → 0 < left → g < 256 → val (column q 0) g ≡ 0 → now ≤ start + left * roots_below (column q 0) g → child ≡ now + 1
      → more ≤ child + (left - 1) * multiplicity (column q 0) g → more ≤ start + left * roots_below (column q 0) (g + 1)
  nodes-more left start now child more g some l v h tick m =
      subst (λ n. more ≤ start + left * n) (sym (roots_below-more (column q 0) g))
      (one_more left start now child more (roots_below (column q 0) g) (multiplicity (column q 0) g) some (multiplicity_root (column q 0) (constants-bytes s) (constants-nonzero s) g l v) h tick m)

  -- on each level they are at most as many as the degree
  pub nodes-most : (left start now g d : ℕ) → g ≤ 256 → HasLowestColumnDegreeAtMost whole d → now ≤ start + left * roots_below (column q 0) g → now ≤ start + left * d
  nodes-most left start now g d l h n =
      let few = roots_below-le (column q 0) (constants-bytes s) (constants-nonzero s) g d l (constants-degree s d h) in
      let most : left * roots_below (column q 0) g ≤ left * d = mul-le-mul_left left few in
      omega (arith, n, most)

  -- after a root g too
  pub nodes-spent : (left start now child more g d : ℕ) → 0 < left → g < 256 → val (column q 0) g ≡ 0 → HasLowestColumnDegreeAtMost whole d → now ≤ start + left * roots_below (column q 0) g
      → child ≡ now + 1 → more ≤ child + (left - 1) * multiplicity (column q 0) g → more ≤ start + left * d
  nodes-spent left start now child more g d some l v h n tick m =
      nodes-most left start more (g + 1) d (omega (arith, l)) h (nodes-more left start now child more g some l v n tick m)
