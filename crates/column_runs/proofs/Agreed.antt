-- Rows that agree with what their factors give, one after the other.
use Rattle.std.proofs.Common.{◌≡◌, ◌≢◌, ℕ, ◌+◌, ◌<◌, ◌≤◌, List, [], length, get_or, inl, inr, sym, subst, ◌∙◌, arith, below_more}
use Rattle.std.proofs.lemmas.Bool.{cases_lt}
use Rattle.column_runs.specs.Tile.{cell, with_differences, given, tile, Agree}

module _ (rows : List (List ℕ)) (from : ℕ) (first : List ℕ) (ds fs : List (List ℕ)) (k columns : ℕ)
    (row : ℕ → ℕ)
    (has : (c : ℕ) → c < columns → row c ≡ cell rows (from + c) (length ds + 1 + k)) where
  -- where the next row agrees too
  pub agree_next : (c : ℕ) → c < columns → Agree rows (tile from first ds) fs c k → row c ≡ given first ds (get_or fs k []) c
      → Agree rows (tile from first ds) fs c (k + 1)
  agree_next c l before same =
      below_more (λ j. cell rows (from + c) (length ds + 1 + j) ≡ with_differences (get_or fs j []) ds (get_or first c 0) c) k before
      (sym (has c l) ∙ same)

  -- where it does not, or those before it do not
  pub differ_next : (n : ℕ) → n ≤ columns → columns ≤ length first → (n < columns → row n ≢ given first ds (get_or fs k []) n)
      → (columns < length first → ¬ Agree rows (tile from first ds) fs columns k) → n < length first → ¬ Agree rows (tile from first ds) fs n (k + 1)
  differ_next n within room here before l all =
      elim (cases_lt n columns) [
        | inl less ↦ here less (has n less ∙ all k (omega arith))
        | inr past ↦
            let same : n ≡ columns = omega (arith, within, past) in
            before (omega (arith, l, same)) (subst (λ n. Agree rows (tile from first ds) fs n k) same (λ j m. all j (omega (arith, m))))
      ]
