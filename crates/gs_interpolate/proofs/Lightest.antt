-- The lightest polynomial of the iteration is what interpolation promises.
use Rattle.std.proofs.Common.{◌≡◌, ℕ, suc, ◌+◌, ◌*◌, ◌<◌, ◌≤◌, List, [], ◌∷◌, length, get_or, sum, All, sym, ap, ◌∙◌, arith, inl, inr}
use Rattle.std.proofs.lemmas.Bool.{cases_lt}
use Rattle.std.proofs.lemmas.List.Sums.{sum_by-cons}
use Rattle.std.proofs.lemmas.List.{get_or_past}
use Rattle.gf256.specs.Polynomial.{coef}
use Rattle.bi_poly.specs.Rows.{row, cell}
use Rattle.interpolation.specs.Monomials.{conditions}
use Rattle.interpolation.specs.Interpolant.{IsInterpolant}
use Rattle.gs_interpolate.specs.Layout.{IsLayout}
use Rattle.gs_interpolate.specs.Family.{AreCoefficients}
use Rattle.gs_interpolate.specs.Basis.{Polynomials, polynomial, weight, HaveZero, IsBasis, IsLeast, IsLight, IsLightest}
use Rattle.gs_interpolate.proofs.Combinations.{hasse-same}
use Rattle.gs_interpolate.proofs.Places.{cell-member}

-- where the exponents sum to less than the lengths of the rows, one of them is less than the length of its row
one_below : (es ns : List ℕ) → length es ≡ length ns → sum es < sum ns → (j : ℕ) × (j < length ns) × (get_or es j 0 < get_or ns j 0)
one_below [] [] e l = absurd (omega arith)
one_below [] (n ∷ ns) e l = absurd (omega arith)
one_below (x ∷ es) [] e l = absurd (omega arith)
one_below (x ∷ es) (n ∷ ns) e l =
    elim (cases_lt x n) [
      | inl h ↦ (0, omega arith, h)
      | inr h ↦
          let f = sum_by-cons (λ (y : ℕ). y) x es in
          let g = sum_by-cons (λ (y : ℕ). y) n ns in
          let r = one_below es ns (omega arith) (omega arith) in
          let inside = r.1 in
          (suc r.0, omega arith, r.2)
    ]

module _ (points : List (ℕ × ℕ)) (m : ℕ) (ns : List ℕ) (s : Polynomials) (q : List (List ℕ))
    (layout : IsLayout ns (conditions (length points) m + 1) s.t s.d) (size : length s.rows ≡ length ns) (basis : IsBasis s)
    (few : sum s.exponents ≤ conditions (length points) m)
    (zeros : All (λ p. HaveZero s p.0 p.1 m) points) (lightest : IsLightest s q) where
  -- it is light: if all were dropped, each exponent would be the length of its row or more
  light : IsLight s lightest.place
  light =
      let long = basis.size in
      let all = layout.sum in
      let r = one_below s.exponents ns (omega (arith, long, size)) (omega (arith, few, all)) in
      let inside = r.1 in
      let below = r.2 in
      let within = layout.within r.0 inside in
      let least = lightest.least in
      let no_less = least.least r.0 (omega (arith, inside, size)) in
      omega (arith, below, within, no_less)

  -- so it is what interpolation promises
  pub lightest_interpolates : IsInterpolant q points m s.t s.d
  lightest_interpolates =
      let place = lightest.place in
      let e = get_or s.exponents place 0 in
      let least = lightest.least in
      let led = basis.each place least.inside light in
      let leads = led.leads in
      let is = lightest.is light in
      let w = light in
      record {
        nonzero = λ z. leads.reached (sym (is place e) ∙ z place e);
        weighted_degree = λ j i nonzero.
            elim (cases_lt (weight s place) (i + s.t * j)) [
              | inl later ↦ absurd (nonzero (is j i ∙ leads.last j i (inl later)))
              | inr l ↦ omega (arith, w, l)
            ];
        zeros = λ k p l u v h.
            hasse-same q (polynomial s place) u v (get_or points k p).0 (get_or points k p).1 is
            ∙ zeros k p l place least.inside light u v h;
        rows = let all = lightest.size in let most = layout.rows in omega (arith, all, most, size);
        each = λ j. let each = lightest.each j in omega (arith, each, w);
      }

-- the rows of the polynomial with the least weight, without what is past that weight
pub is_lightest : (s : Polynomials) (q : List (List ℕ)) (place count : ℕ) → IsBasis s → IsLeast s place → count ≡ weight s place + 1
    → length q ≡ length s.rows
    → ((j : ℕ) → j < length s.rows → AreCoefficients s.lanes place count (row s.rows j) (row q j)) → IsLightest s q
unfolding cell coef
is_lightest s q place count basis least weight size coefficients = record {
  place = place;
  least = least;
  is = λ light j i.
      let wide = basis.wide in
      let inside = least.inside in
      let some : 1 ≤ s.lanes = omega (arith, wide, inside) in
      let led = basis.each place inside light in
      let leads = led.leads in
      elim (cases_lt j (length s.rows)) [
        | inl l ↦
            let of_row = coefficients j l in
            elim (cases_lt i count) [
              | inl h ↦ of_row.each i h ∙ sym (cell-member s.lanes s.rows place j i some)
              | inr h ↦
                  let many = of_row.size in
                  get_or_past (row q j) i 0 (omega (arith, many, h)) ∙ sym (leads.last j i (inl (omega (arith, weight, h))))
            ]
        | inr l ↦
            ap (λ r. get_or r i 0) (get_or_past q j [] (omega (arith, size, l)))
            ∙ sym (cell-member s.lanes s.rows place j i some ∙ ap (λ r. get_or r (i * s.lanes + place) 0) (get_or_past s.rows j [] l))
      ];
  size = size;
  each = λ j.
      elim (cases_lt j (length s.rows)) [
        | inl l ↦ let of_row = coefficients j l in let many = of_row.size in omega (arith, many, weight)
        | inr l ↦ let none = ap length (get_or_past q j [] (omega (arith, size, l))) in omega (arith, none)
      ];
}
