-- Counts that rise by so much at most for each of some.
use Rattle.std.proofs.Common.{◌≡◌, ℕ, suc, ◌+◌, ◌*◌, ◌≤◌, min, sym, ap, subst, inl, inr, arith, le_of_lt}
use Rattle.std.proofs.Math.Nat.{mul-le-mul_right, min-eq_left, min-eq_right}
use Rattle.std.proofs.lemmas.Bool.{cases_lt}

-- for some, and for others after them
pub products_both : (a b c most n0 n1 n2 : ℕ) → c ≡ a + b → n1 ≤ n0 + a * most → n2 ≤ n1 + b * most → n2 ≤ n0 + c * most
products_both a b c most n0 n1 n2 e f g =
    let k = ap (λ n. n * most) e in
    let s : (a + b) * most ≡ a * most + b * most = omega arith in
    omega (arith, f, g, k, s)

-- for one, and for others after it
pub product_more : (a most n0 n1 n2 : ℕ) → n1 ≤ n0 + most → n2 ≤ n1 + a * most → n2 ≤ n0 + suc a * most
product_more a most n0 n1 n2 f g = let s : suc a * most ≡ a * most + most = omega arith in omega (arith, f, g, s)

-- for one of some
pub product_some : (a most n0 n1 : ℕ) → n1 ≤ n0 + most → n1 ≤ n0 + suc a * most
product_some a most n0 n1 f = let s : suc a * most ≡ a * most + most = omega arith in omega (arith, f, s)

-- for no more than so many
pub products_up : (a b most n0 n1 : ℕ) → a ≤ b → n1 ≤ n0 + a * most → n1 ≤ n0 + b * most
products_up a b most n0 n1 l f = let m = mul-le-mul_right most l in omega (arith, f, m)

-- for so many, and for so many others: so for the lesser of both
pub products_lesser : (a b most n0 n1 : ℕ) → n1 ≤ n0 + a * most → n1 ≤ n0 + b * most → n1 ≤ n0 + min a b * most
products_lesser a b most n0 n1 first second =
    elim (cases_lt b a) [
      | inl less ↦ subst (λ m. n1 ≤ n0 + m * most) (sym (min-eq_right (le_of_lt less))) second
      | inr few ↦ subst (λ m. n1 ≤ n0 + m * most) (sym (min-eq_left few)) first
    ]
