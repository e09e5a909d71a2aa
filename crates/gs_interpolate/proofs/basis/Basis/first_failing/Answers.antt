use Rattle.std.proofs.Common.{◌≢◌, ℕ, ◌+◌, ◌<◌, ◌≤◌, List, length, get_or, MatchOption, inl, inr, refl, sym, subst, arith, below_more}
use Rattle.std.proofs.lemmas.Bool.{cases_lt, cases_eq}
use borrow.Author.Count.{falls}
use Rattle.gs_interpolate.specs.Basis.{Polynomials, weight, LeadsBefore, AreZero, IsFirstFailing}
use Rattle.gs_interpolate.proofs.basis.Basis.first_failing.Goals as goal
use Rattle.gs_interpolate.proofs.basis.Basis.first_failing.Goals.{then-values-j-ne0+then-weight, else-values-j-ne0, else-values-j-ne0-via-then-values-j-ne0+else-weight, else-values-j-ne0-via-else-values-j-ne0}

-- of the places below n whose value is not 0, that at place p has the first leading monomial
abbrev IsFirst : Polynomials → List ℕ → ℕ → ℕ → Type 0
IsFirst s values p n = (k : ℕ) → k < n → get_or values k 0 ≢ 0 → k ≢ p → LeadsBefore s p k

-- it stays, if no value at place n comes before
stays : (s : Polynomials) (values : List ℕ) (p n : ℕ) → IsFirst s values p n → (get_or values n 0 ≢ 0 → LeadsBefore s p n)
    → IsFirst s values p (n + 1)
stays s values p n first last =
    below_more (λ k. get_or values k 0 ≢ 0 → k ≢ p → LeadsBefore s p k) n first (λ some _. last some)

-- place n takes its place, if it is lighter
yields : (s : Polynomials) (values : List ℕ) (p n : ℕ) → IsFirst s values p n → weight s n < weight s p → IsFirst s values n (n + 1)
yields s values p n first lighter =
    below_more (λ k. get_or values k 0 ≢ 0 → k ≢ n → LeadsBefore s n k) n
    (λ k l some _.
    elim (cases_eq k p) [
      | inl same ↦ inl (subst (λ i. weight s n < weight s i) (sym same) lighter)
      | inr other ↦ elim (first k l some other) [
        | inl less ↦ inl (omega (arith, less, lighter))
        | inr as_light ↦ inl (omega (arith, as_light.0, lighter))
      ]
    ])
    (λ _ other. absurd (other refl))

-- one that is not lighter, and stands later, comes later
later : (s : Polynomials) (p n : ℕ) → p < n → weight s p ≤ weight s n → LeadsBefore s p n
later s p n after heavy =
    elim (cases_lt (weight s p) (weight s n)) [
      | inl less ↦ inl less
      | inr not_less ↦ inr (omega (arith, heavy, not_less), after)
    ]

pub bounds-values-j : goal.bounds-values-j
bounds-values-j c = omega arith

pub weight-requires : goal.weight-requires
weight-requires c = omega (arith, c.requires)

pub weight-requires-then-values-j-ne0 : goal.weight-requires-then-values-j-ne0
weight-requires-then-values-j-ne0 c = omega (arith, c.requires)

pub overflow_step-j : goal.overflow_step-j
overflow_step-j c = omega (arith, c.in_ok-first.ensures.inside)

pub loop-j-init : goal.loop-j-init
loop-j-init c =
    let found = c.in_ok-first.ensures in
    let p = c.in_ok-first.first in
    let s = c.args.self.now in
    let values = c.args.values.now in
    record {
      passed = omega arith;
      inside = found.inside;
      fails = found.fails;
      first = below_more (λ k. get_or values k 0 ≢ 0 → k ≢ p → LeadsBefore s p k) p
          (λ k l some _. absurd (some (found.before k l))) (λ _ other. absurd (other refl));
    }

pub loop-j-smaller : goal.loop-j-smaller
loop-j-smaller c = falls (length c.args.values.now) c.loop-j.j c.loop-j-test.true

pub loop-j-preserved : goal.loop-j-preserved
loop-j-preserved c =
    let s = c.args.self.now in
    let values = c.args.values.now in
    let j = c.loop-j.j in
    let p = c.loop-j.first in
    let first = c.loop-j.invariant.first in
    elim c.if-values-j-ne0.branch [
      | then-values-j-ne0+then-weight w ↦
          let own = w.weight.ensures.weight in
          let other = w.weight-then-values-j-ne0.ensures.weight in
          record {
            passed = omega arith;
            inside = subst (λ q. q < length values) (sym w.first-is) c.loop-j-test.true;
            fails = subst (λ q. get_or values q 0 ≢ 0) (sym w.first-is) w.if-values-j-ne0.true;
            first = subst (λ q. IsFirst s values q (j + 1)) (sym w.first-is) (yields s values p j first (omega (arith, own, other, w.if-weight.true)));
          }
      | else-values-j-ne0 w ↦
          let kept : IsFirst s values p (j + 1) =
          elim w.else-values-j-ne0.branch [
            | else-values-j-ne0-via-then-values-j-ne0+else-weight v ↦
                let own = v.weight.ensures.weight in
                let other = v.weight-then-values-j-ne0.ensures.weight in
                stays s values p j first (λ _. later s p j c.loop-j.invariant.passed (omega (arith, own, other, v.if-weight.false)))
            | else-values-j-ne0-via-else-values-j-ne0 v ↦ stays s values p j first (λ some. absurd (some v.if-values-j-ne0.false))
          ] in
          record {
            passed = omega arith;
            inside = subst (λ q. q < length values) (sym w.first-is) c.loop-j.invariant.inside;
            fails = subst (λ q. get_or values q 0 ≢ 0) (sym w.first-is) c.loop-j.invariant.fails;
            first = subst (λ q. IsFirst s values q (j + 1)) (sym w.first-is) kept;
          }
    ]

pub returns : goal.returns
returns c = record {
  inside = omega (arith, c.loop-j.invariant.inside, c.requires);
  fails = c.loop-j.invariant.fails;
  first = λ k l some other. c.loop-j.invariant.first k (omega (arith, l, c.requires, c.loop-j-test.false)) some other;
}

pub returns-in_err-first : goal.returns-in_err-first
returns-in_err-first c =
    subst (λ o. MatchOption o (AreZero c.args.values.now) (IsFirstFailing c.args.self.now c.args.values.now))
    (sym c.from_residual.ensures) c.in_err-first.ensures
