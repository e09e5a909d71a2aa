-- The rows lose their first coefficients one after another.
use Rattle.std.proofs.Common.{◌≡◌, ℕ, ◌+◌, ◌<◌, ◌≤◌, List, [], length, drop, set, get_or, refl, sym, ap, ◌∙◌, arith, inl, inr, length-set, get_or-set_same, get_or-set_other, ext_get_or}
use Rattle.std.proofs.lemmas.List.{get_or-map, length-map, get_or_past, get_or-drop}
use Rattle.std.proofs.lemmas.Bool.{cases_lt, cases_eq}
use Rattle.gf256.specs.Polynomial.{coef}
use Rattle.bi_poly.specs.Rows.{row, cell}
use Rattle.bi_poly.specs.Degree.{without_first}

-- the rows below i have lost their first n coefficients, and the others are as they were
pub record IsStrippedBelow (n i : ℕ) (now before : List (List ℕ)) : Type 0 where
  pub size : length now ≡ length before
  pub done : (k : ℕ) → k < i → row now k ≡ drop n (row before k)
  pub rest : (k : ℕ) → i ≤ k → row now k ≡ row before k

-- none yet
pub stripped-start : (n : ℕ) (q : List (List ℕ)) → IsStrippedBelow n 0 q q
stripped-start n q = record { size = refl; done = λ k l. absurd (omega arith); rest = λ k l. refl }

-- one more
pub stripped-more : (n i : ℕ) (now before : List (List ℕ)) (r : List ℕ) → i < length now → IsStrippedBelow n i now before → r ≡ drop n (row now i)
    → IsStrippedBelow n (i + 1) (set now i r) before
stripped-more n i now before r l h e = record {
  size = length-set now i r ∙ h.size;
  done = λ k m.
      elim (cases_eq k i) [
        | inl same ↦
            ap (λ j. row (set now i r) j) same ∙ get_or-set_same now i r [] l ∙ e ∙ ap (drop n) (h.rest i (omega arith))
            ∙ ap (λ j. drop n (row before j)) (sym same)
        | inr other ↦ get_or-set_other now i k r [] other ∙ h.done k (omega (arith, other))
      ];
  rest = λ k m. get_or-set_other now i k r [] (λ s. absurd (omega arith)) ∙ h.rest k (omega arith);
}

-- all of them
pub stripped-all : (n i : ℕ) (now before : List (List ℕ)) → length before ≤ i → IsStrippedBelow n i now before → now ≡ without_first n before
stripped-all n i now before l h =
    ext_get_or [] now (without_first n before) (h.size ∙ sym (length-map before (drop n)))
    (λ k m. let size = h.size in h.done k (omega arith) ∙ sym (get_or-map (drop n) before k [] [] (omega arith)))

-- the coefficient of what is left at x ^ i * y ^ j was at x ^ (n + i) * y ^ j
pub cell-without_first : (n : ℕ) (q : List (List ℕ)) (j i : ℕ) → cell (without_first n q) j i ≡ cell q j (n + i)
unfolding cell coef
cell-without_first n q j i =
    elim (cases_lt j (length q)) [
      | inl within ↦ ap (λ r. get_or r i 0) (get_or-map (drop n) q j [] [] within) ∙ get_or-drop n (row q j) i 0
      | inr past ↦
          let size = length-map q (drop n) in
          ap (λ r. get_or r i 0) (get_or_past (without_first n q) j [] (omega arith))
          ∙ sym (ap (λ r. get_or r (n + i) 0) (get_or_past q j [] past))
    ]
