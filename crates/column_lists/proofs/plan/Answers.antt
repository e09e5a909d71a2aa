use Rattle.std.proofs.Common.{◌≡◌, ◌+◌, ◌*◌, ◌-◌, ◌/◌, ℕ, refl, sym, ap₂, subst, ◌<◌, ◌≤◌, arith}
use Rattle.interpolation.specs.Monomials.{monomials}
use Rattle.column_lists.specs.Numbers.{mult}
use Rattle.column_lists.proofs.Counting.{enough_monomials}
use Rattle.column_lists.proofs.plan.Goals as goal

pub returns-clause-multiplicity : goal.returns-clause-multiplicity
unfolding mult
returns-clause-multiplicity c = refl

pub returns-clause-cost : goal.returns-clause-cost
unfolding mult
returns-clause-cost c = ap₂ (λ (a b : ℕ). a * b / 2) c.from.ensures c.from-2.ensures

pub returns-clause-enough : goal.returns-clause-enough
unfolding mult
returns-clause-enough c =
    let k = c.args.k in
    let t = c.args.t in
    let h = c.args.h in
    let r = c.requires in
    let m : ℕ = t * (k - h) / (h * h - k * t) + 1 in
    let some : 1 ≤ h * m = positive h (t * (k - h) / (h * h - k * t)) (omega (arith, r.redundant)) in
    let e : h * m - 1 + 1 ≡ h * m = omega (arith, some) in
    subst (λ (x : ℕ). x < monomials t (h * m - 1)) (sym (ap₂ (λ (a b : ℕ). a * b / 2) c.from.ensures c.from-2.ensures)) (enough_monomials k t h (h * m - 1) r.degree r.agreement r.strong e)
  where
    positive : (h q : ℕ) → 1 ≤ h → 1 ≤ h * (q + 1)
    positive h q some = omega arith
