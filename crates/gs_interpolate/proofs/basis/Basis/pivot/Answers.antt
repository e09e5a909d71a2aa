use Rattle.std.proofs.Common.{◌≡◌, ◌≢◌, ℕ, ◌<◌, List, length, take, get_or, MatchOption, sym, ap, subst, ◌∙◌, arith, inl, inr, Vec, Global}
use Rattle.std.proofs.lemmas.Bool.{cases_eq}
use Rattle.std.proofs.lemmas.List.{get_or-take, length-map}
use Rattle.gs_interpolate.specs.Basis.{Polynomials, weight, AreZeroWhereLight, IsFirstFailing, IsPivot}
use Rattle.gs_interpolate.proofs.basis.Basis.pivot.Goals as goal

-- the values of the polynomials come first
of_all : (s : Polynomials) (values : List ℕ) (n p : ℕ) → n ≡ length s.rows → IsFirstFailing s (take n values) p → IsFirstFailing s values p
of_all s values n p all found = record {
  inside = found.inside;
  fails = subst (λ x. x ≢ 0) (get_or-take n values p 0 (let inside = found.inside in omega (arith, inside, all))) found.fails;
  first = λ j l some other. found.first j l (subst (λ x. x ≢ 0) (sym (get_or-take n values j 0 (omega (arith, l, all)))) some) other;
}

-- where the first that fails is not light, none is
none_light : (s : Polynomials) (values : List ℕ) (p : ℕ) → s.d < weight s p → IsFirstFailing s values p → AreZeroWhereLight s values
none_light s values p heavy found j l low =
    elim (cases_eq (get_or values j 0) 0) [
      | inl none ↦ none
      | inr some ↦ elim (cases_eq j p) [
        | inl same ↦ absurd (let e = ap (weight s) same in omega (arith, heavy, low, e))
        | inr other ↦ absurd (elim (found.first j l some other) [
          | inl less ↦ omega (arith, heavy, low, less)
          | inr as_light ↦ omega (arith, heavy, low, as_light.0)
        ])
      ]
    ]

pub returns : goal.returns
returns c =
    let s = c.args.self.now in
    let f : Vec ℕ Global → List ℕ = λ r. r.items in
    let all : c.len.result ≡ length s.rows = omega (arith, c.len.ensures, length-map c.self.inside.rows.items f, ap (λ s. length s.rows) c.self.view_is) in
    record {
      light = omega (arith, c.weight.ensures.weight, c.if-weight-self.false, ap (λ s. s.d) c.self.view_is);
      first = of_all s c.args.values.now c.len.result c.in_ok-first.first all c.in_ok-first.ensures;
    }

pub returns-then-weight-self : goal.returns-then-weight-self
returns-then-weight-self c =
    let s = c.args.self.now in
    let f : Vec ℕ Global → List ℕ = λ r. r.items in
    let all : c.len.result ≡ length s.rows = omega (arith, c.len.ensures, length-map c.self.inside.rows.items f, ap (λ s. length s.rows) c.self.view_is) in
    none_light s c.args.values.now c.in_ok-first.first (omega (arith, c.weight.ensures.weight, c.if-weight-self.true, ap (λ s. s.d) c.self.view_is))
    (of_all s c.args.values.now c.len.result c.in_ok-first.first all c.in_ok-first.ensures)

pub returns-in_err-first : goal.returns-in_err-first
returns-in_err-first c =
    let s = c.args.self.now in
    let values = c.args.values.now in
    let f : Vec ℕ Global → List ℕ = λ r. r.items in
    let all : c.len.result ≡ length s.rows = omega (arith, c.len.ensures, length-map c.self.inside.rows.items f, ap (λ s. length s.rows) c.self.view_is) in
    subst (λ o. MatchOption o (AreZeroWhereLight s values) (IsPivot s values)) (sym c.from_residual.ensures)
    (λ j l _. sym (get_or-take c.len.result values j 0 (omega (arith, l, all))) ∙ c.in_err-first.ensures j)
