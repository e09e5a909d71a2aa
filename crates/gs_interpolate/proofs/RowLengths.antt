-- Filling the rows of a polynomial, each as long as it can be, until it has enough coefficients.
use Rattle.std.proofs.Common.{◌≡◌, ℕ, ◌+◌, ◌-◌, ◌*◌, ◌/◌, ◌<◌, ◌≤◌, min, List, [], ◌∷◌, ◌++◌, length, get_or, sum, ap, subst, arith, inl, inr}
use Rattle.std.proofs.lemmas.Bool.{cases_lt}
use Rattle.std.proofs.lemmas.Nat.{le-div}
use Rattle.std.proofs.lemmas.List.{get_or_append_left, get_or_push, length_push}
use Rattle.std.proofs.lemmas.List.Sums.{sum_by_push}
use Rattle.interpolation.specs.Monomials.{monomials, monomials_below}
use Rattle.interpolation.proofs.Counting.{monomials_below-none, monomials_below-row, monomials_below-no_rows}
use Rattle.gs_interpolate.specs.Layout.{IsLayout}

-- the rows so far, what is missing, and how long the next row can be
pub record IsFilled (ns : List ℕ) (missing longest size t d : ℕ) : Type 0 where
  pub sum : sum ns + missing ≡ size
  pub left : longest ≡ d + 1 - t * length ns
  pub enough : missing ≤ monomials_below (d + 1 - length ns) t longest
  pub rows : length ns ≤ d / t + 1
  pub within : (j : ℕ) → j < length ns → get_or ns j 0 + t * j ≤ d + 1

-- at first there are no rows
pub filled-none : (size t d : ℕ) → size ≤ monomials t d → IsFilled [] size (d + 1) size t d
filled-none size t d l = record {
  sum = omega arith;
  left = omega arith;
  enough = let e : d + 1 ≡ d + 1 - length {A = ℕ} [] = omega arith in subst (λ r. size ≤ monomials_below r t (d + 1)) e l;
  rows = omega arith;
  within = λ j h. absurd (omega arith);
}

-- where some are missing, the next row is not empty
pub filled-room : (ns : List ℕ) (missing longest size t d : ℕ) → IsFilled ns missing longest size t d → 0 < missing → 0 < longest
filled-room ns missing longest size t d f l =
    elim (cases_lt 0 longest) [
      | inl h ↦ h
      | inr h ↦
          let none : longest ≡ 0 = omega arith in
          let enough = subst (λ n. missing ≤ monomials_below (d + 1 - length ns) t n) none f.enough in
          let z = monomials_below-none (d + 1 - length ns) t in
          absurd (omega arith)
    ]

-- and it is in range
filled-row : (ns : List ℕ) (missing longest size t d : ℕ) → 1 ≤ t → IsFilled ns missing longest size t d → 0 < missing → length ns ≤ d / t
filled-row ns missing longest size t d some f l =
    let room = filled-room ns missing longest size t d f l in
    let e = f.left in
    le-div (length ns) d t some (omega arith)

-- one more row
pub filled-next : (ns : List ℕ) (missing longest n size t d : ℕ) → 1 ≤ t → IsFilled ns missing longest size t d → 0 < missing → n ≡ min missing longest
    → IsFilled (ns ++ n ∷ []) (missing - n) (longest - t) size t d
filled-next ns missing longest n size t d some f l e =
    let long = length_push ns n in
    let row = filled-row ns missing longest size t d some f l in
    let total = sum_by_push (λ (x : ℕ). x) ns n in
    let F = f.sum in
    let L = f.left in
    let E = f.enough in
    let product = ap (λ x. t * x) long in
    let rows = d + 1 - length ns in
    record {
      sum = omega arith;
      left = omega arith;
      enough =
          elim (cases_lt 0 rows) [
            | inl h ↦
                let split = monomials_below-row rows t longest (d + 1 - length (ns ++ n ∷ [])) (omega arith) in
                omega arith
            | inr h ↦ let z = monomials_below-no_rows rows t longest (omega arith) in absurd (omega arith)
          ];
      rows = omega arith;
      within = λ j h.
          elim (cases_lt j (length ns)) [
            | inl k ↦ rw (get_or_append_left ns (n ∷ []) 0 j k) (f.within j k)
            | inr k ↦
                let same : length ns ≡ j = omega arith in
                let last = get_or_push ns n 0 j same in
                let up_to : t * length ns ≡ t * j = ap (λ x. t * x) same in
                let room = filled-room ns missing longest size t d f l in
                omega arith
          ];
    }

-- where none are missing, the rows are filled
pub filled-all : (ns : List ℕ) (missing longest size t d : ℕ) → missing ≡ 0 → IsFilled ns missing longest size t d → IsLayout ns size t d
filled-all ns missing longest size t d e f = let F = f.sum in record { sum = omega arith; rows = f.rows; within = f.within }
