-- Weighted degrees and orders, row by row.
use Rattle.std.proofs.Common.{◌≡◌, ◌≢◌, ℕ, ◌+◌, ◌*◌, ◌<◌, ◌≤◌, List, [], length, get_or, sym, ap, subst, ◌∙◌, arith, inl, inr, max, min, mul-le-mul_right, Option, Some, None}
use Rattle.std.specs.Prelude.{MatchOption}
use Rattle.std.specs.Option.{unwrap_or}
use Rattle.std.specs.Ordering.{ord_max, nat_cmp}
use Rattle.std.proofs.lemmas.Bool.Decides.{nat_tests}
use Rattle.std.proofs.Math.Nat.{max-eq_left, max-eq_right, min-eq_left, min-eq_right, le-max_left, le-max_right}
use Rattle.std.proofs.lemmas.List.{get_or_past, get_or-map, length-map}
use Rattle.std.proofs.lemmas.Bool.{cases_lt}
use Rattle.gf256.specs.Polynomial.{coef}
use Rattle.uni_poly.specs.Coefficients as one
use Rattle.bi_poly.specs.Rows.{row, cell, column, IsZero}
use Rattle.quantity_limits.specs.declared.TheConstants.{MOST_DEGREE}
use Rattle.bi_poly.specs.Degree.{IsDegree, IsOrder, IsWeightedDegree, IsOrderInX}

-- the greater of two numbers, as the code finds it
pub ord_max-nat : (a b : ℕ) → ord_max nat_cmp a b ≡ max a b
ord_max-nat a b = grind (arith, nat_tests)

-- the first n rows are 0
abbrev pub IsZeroBelow : List (List ℕ) → ℕ → Type 0
IsZeroBelow q n = (j i : ℕ) → j < n → cell q j i ≡ 0

-- w is the weighted degree of the first n rows
pub record IsWeightBelow (q : List (List ℕ)) (t n w : ℕ) : Type 0 where
  pub reached : (j : ℕ) × (i : ℕ) × (cell q j i ≢ 0) × (i + t * j ≡ w)
  pub greatest : (j i : ℕ) → j < n → cell q j i ≢ 0 → i + t * j ≤ w

-- d is the order of the first n rows
pub record IsOrderBelow (q : List (List ℕ)) (n d : ℕ) : Type 0 where
  pub reached : (j : ℕ) × (cell q j d ≢ 0)
  pub lowest : (j i : ℕ) → j < n → i < d → cell q j i ≡ 0

-- past the last row all is 0
pub cell-past : (q : List (List ℕ)) (j i : ℕ) → length q ≤ j → cell q j i ≡ 0
unfolding cell coef
cell-past q j i l = ap (λ r. get_or r i 0) (get_or_past q j [] l)

-- a coefficient of a column
pub coef-column : (q : List (List ℕ)) (i j : ℕ) → coef (column q i) j ≡ cell q j i
unfolding cell coef
coef-column q i j =
    elim (cases_lt j (length q)) [
      | inl within ↦ get_or-map (λ r. coef r i) q j [] 0 within
      | inr past ↦
          get_or_past (column q i) j 0 (omega (arith, length-map q (λ r. coef r i)))
          ∙ sym (ap (λ r. get_or r i 0) (get_or_past q j [] past))
    ]

-- a row of zeros more
pub IsZeroBelow-more : (q : List (List ℕ)) (n : ℕ) → IsZeroBelow q n → one.IsZero (row q n) → IsZeroBelow q (n + 1)
unfolding cell
IsZeroBelow-more q n h z j i l =
    elim (cases_lt j n) [
      | inl below ↦ h j i below
      | inr past ↦ let e : j ≡ n = omega arith in subst (λ k. coef (row q k) i ≡ 0) (sym e) (z i)
    ]

-- where all rows are 0, all is
pub IsZero-from_rows : (q : List (List ℕ)) (n : ℕ) → length q ≤ n → IsZeroBelow q n → IsZero q
IsZero-from_rows q n l h j i =
    elim (cases_lt j n) [
      | inl below ↦ h j i below
      | inr past ↦ cell-past q j i (omega arith)
    ]

-- a coefficient that is not 0 stands inside its list
pub degree-inside : (p : List ℕ) (d : ℕ) → IsDegree p d → d < length p
unfolding coef
degree-inside p d h =
    elim (cases_lt d (length p)) [
      | inl l ↦ l
      | inr l ↦ absurd (h.reached (get_or_past p d 0 l))
    ]

-- no coefficient beyond the degree
degree-most : (p : List ℕ) (d e : ℕ) → IsDegree p d → coef p e ≢ 0 → e ≤ d
degree-most p d e h n =
    elim (cases_lt d e) [
      | inl l ↦ absurd (n (h.highest e l))
      | inr l ↦ l
    ]

-- the weights of the row at n, of degree d, are at most that of its last coefficient
weight-row : (q : List (List ℕ)) (t n d j i : ℕ) → j ≡ n → IsDegree (row q n) d → cell q j i ≢ 0 → i + t * j ≤ d + t * n
unfolding cell
weight-row q t n d j i e h z =
    let most = degree-most (row q n) d i h (λ x. z (ap (λ k. coef (row q k) i) e ∙ x)) in
    subst (λ k. i + t * k ≤ d + t * n) (sym e) (omega arith)

-- one more row of zeros
pub weight-none : (q : List (List ℕ)) (t n : ℕ) (o : Option ℕ) → MatchOption o (IsZeroBelow q n) (IsWeightBelow q t n) → one.IsZero (row q n)
    → MatchOption o (IsZeroBelow q (n + 1)) (IsWeightBelow q t (n + 1))
unfolding cell
weight-none q t n None h z = IsZeroBelow-more q n h z
weight-none q t n (Some w) h z = record {
  reached = h.reached;
  greatest = λ j i l f.
      elim (cases_lt j n) [
        | inl below ↦ h.greatest j i below f
        | inr past ↦ let e : j ≡ n = omega arith in absurd (f (ap (λ k. coef (row q k) i) e ∙ z i))
      ];
}

-- one more row, of degree d
pub weight-some : (q : List (List ℕ)) (t n d : ℕ) (o : Option ℕ) → MatchOption o (IsZeroBelow q n) (IsWeightBelow q t n) → IsDegree (row q n) d
    → IsWeightBelow q t (n + 1) (max (unwrap_or o 0) (d + t * n))
unfolding cell
weight-some q t n d None h g = record {
  reached = (n, d, g.reached, sym (max-eq_right (omega arith)));
  greatest = λ j i l f.
      elim (cases_lt j n) [
        | inl below ↦ absurd (f (h j i below))
        | inr past ↦
            let e : j ≡ n = omega arith in
            let most = weight-row q t n d j i e g f in
            let right = le-max_right 0 (d + t * n) in
            omega arith
      ];
}
weight-some q t n d (Some w) h g = record {
  reached =
      elim (cases_lt w (d + t * n)) [
        | inl less ↦ (n, d, g.reached, sym (max-eq_right (omega arith)))
        | inr more ↦ (h.reached.0, h.reached.1, h.reached.2, h.reached.3 ∙ sym (max-eq_left more))
      ];
  greatest = λ j i l f.
      elim (cases_lt j n) [
        | inl below ↦ let most = h.greatest j i below f in let left = le-max_left w (d + t * n) in omega arith
        | inr past ↦
            let e : j ≡ n = omega arith in
            let most = weight-row q t n d j i e g f in
            let right = le-max_right w (d + t * n) in
            omega arith
      ];
}

-- after the last row the weight is that of the whole
pub weight-all : (q : List (List ℕ)) (t n : ℕ) (o : Option ℕ) → length q ≤ n → MatchOption o (IsZeroBelow q n) (IsWeightBelow q t n)
    → MatchOption o (IsZero q) (IsWeightedDegree q t)
weight-all q t n None l h = IsZero-from_rows q n l h
weight-all q t n (Some w) l h = record {
  reached = h.reached;
  greatest = λ j i f.
      elim (cases_lt j n) [
        | inl below ↦ h.greatest j i below f
        | inr past ↦ absurd (f (cell-past q j i (omega arith)))
      ];
}

-- one more row of zeros
pub order-none : (q : List (List ℕ)) (n : ℕ) (o : Option ℕ) → MatchOption o (IsZeroBelow q n) (IsOrderBelow q n) → one.IsZero (row q n)
    → MatchOption o (IsZeroBelow q (n + 1)) (IsOrderBelow q (n + 1))
unfolding cell
order-none q n None h z = IsZeroBelow-more q n h z
order-none q n (Some w) h z = record {
  reached = h.reached;
  lowest = λ j i l k.
      elim (cases_lt j n) [
        | inl below ↦ h.lowest j i below k
        | inr past ↦ let e : j ≡ n = omega arith in ap (λ k. coef (row q k) i) e ∙ z i
      ];
}

-- one more row, of order d
pub order-some : (q : List (List ℕ)) (n d : ℕ) (o : Option ℕ) → MatchOption o (IsZeroBelow q n) (IsOrderBelow q n) → IsOrder (row q n) d
    → IsOrderBelow q (n + 1) (min (unwrap_or o d) d)
unfolding cell
order-some q n d None h g =
    let same = min-eq_left {n = d} {m = d} (omega arith) in
    record {
      reached = (n, λ x. g.reached (ap (coef (row q n)) (sym same) ∙ x));
      lowest = λ j i l k.
          elim (cases_lt j n) [
            | inl below ↦ h j i below
            | inr past ↦ let e : j ≡ n = omega arith in ap (λ k. coef (row q k) i) e ∙ g.lowest i (omega (arith, same))
          ];
    }
order-some q n d (Some w) h g =
    elim (cases_lt w d) [
      | inl less ↦ subst (IsOrderBelow q (n + 1)) (sym (min-eq_left (omega arith))) (record {
        reached = h.reached;
        lowest = λ j i l k.
            elim (cases_lt j n) [
              | inl below ↦ h.lowest j i below k
              | inr past ↦ let e : j ≡ n = omega arith in ap (λ k. coef (row q k) i) e ∙ g.lowest i (omega arith)
            ];
      })
      | inr more ↦ subst (IsOrderBelow q (n + 1)) (sym (min-eq_right more)) (record {
        reached = (n, g.reached);
        lowest = λ j i l k.
            elim (cases_lt j n) [
              | inl below ↦ h.lowest j i below (omega arith)
              | inr past ↦ let e : j ≡ n = omega arith in ap (λ k. coef (row q k) i) e ∙ g.lowest i k
            ];
      })
    ]

-- after the last row the order is that of the whole
pub order-all : (q : List (List ℕ)) (n : ℕ) (o : Option ℕ) → length q ≤ n → MatchOption o (IsZeroBelow q n) (IsOrderBelow q n)
    → MatchOption o (IsZero q) (IsOrderInX q)
order-all q n None l h = IsZero-from_rows q n l h
order-all q n (Some w) l h = record {
  reached = h.reached;
  lowest = λ j i k.
      elim (cases_lt j n) [
        | inl below ↦ h.lowest j i below k
        | inr past ↦ cell-past q j i (omega arith)
      ];
}

-- a weight within the limits
pub weight-fits : (t j i : ℕ) → t ≤ MOST_DEGREE → j < 65537 → i < 2147483648 → i + t * j ≤ 2164130046
weight-fits t j i a b c =
    let most = mul-le-mul_right j a in
    let more : MOST_DEGREE * j ≤ MOST_DEGREE * 65537 = omega arith in
    omega arith
