-- Rows of a file that grows by a row, and what is counted in them.
use Rattle.std.proofs.Common.{◌≡◌, ◌∙◌, inl, inr, ℕ, ◌+◌, ◌-◌, ◌*◌, ◌<◌, ◌≤◌, max, List, [], ◌∷◌, ◌++◌, length, take, drop, get_or, sym, ap, ap₂, subst, arith}
use Rattle.std.proofs.Math.Nat.{mul-le-mul_right}
use Rattle.std.proofs.lemmas.Bool.{cases_lt}
use Rattle.std.proofs.lemmas.List.{drop-append-le, drop_all, get_or_append_left, get_or_push, length-drop, length_push, take-append-le, take_all}
use Rattle.std.proofs.lemmas.List.Sums.{fold_push}
use Rattle.block_matrix.specs.Database.{row_at}
use Rattle.key_table.specs.Entry.{Pair}
use Rattle.key_table.specs.Table.{IsRowOf}
use Rattle.list_checks.specs.Claims.{making_of}
use Rattle.list_checks.specs.Rows.{AreRows, entries_of, fullest_of, tally_of}
use Rattle.list_checks.specs.declared.claim.Claim.{Claim}

-- a row ends where the next one begins
row_ends : (width j count : ℕ) → j < count → j * width + width ≤ count * width
row_ends width j count lt =
    let next : (j + 1) * width ≡ j * width + width = grind arith in
    let most : (j + 1) * width ≤ count * width = mul-le-mul_right width (omega (arith, lt)) in
    omega (arith, next, most)

-- a row stays as more bytes come behind it
row_still : (width j : ℕ) (file more : List ℕ) → j * width + width ≤ length file → row_at width (file ++ more) j ≡ row_at width file j
row_still width j file more fits =
    let from = j * width in
    let size : from + width - from ≡ width = omega arith in
    ap (take (from + width - from)) (drop-append-le from file more (omega (arith, fits)))
    ∙ take-append-le (from + width - from) (drop from file) more (omega (arith, size, fits, length-drop from file))

-- the row behind so many
pub row_next : (width j : ℕ) (file row : List ℕ) → length file ≡ j * width → length row ≡ width → row_at width (file ++ row) j ≡ row
row_next width j file row size is =
    let from = j * width in
    let behind : drop from (file ++ row) ≡ row
    = drop-append-le from file row (omega (arith, size)) ∙ ap (λ (l : List ℕ). l ++ row) (drop_all from file (omega (arith, size))) in
    ap (take (from + width - from)) behind ∙ take_all (from + width - from) row (omega (arith, is))

module _ (claim : Claim) (file : List ℕ) (rows : List (List Pair)) (are : AreRows claim file rows) where
  -- rows stay as more bytes come behind them
  pub rows_still : (more : List ℕ) → length rows * claim.width ≤ length file → AreRows claim (file ++ more) rows
  rows_still more fits = record {
    each = λ j lt.
        let ends = row_ends claim.width j (length rows) lt in
        subst (λ (row : List ℕ). IsRowOf (making_of claim) j row (get_or rows j []))
        (sym (row_still claim.width j file more (omega (arith, ends, fits)))) (are.each j lt);
  }

  -- one row more
  pub rows_more : (j : ℕ) (row : List ℕ) (pairs : List Pair) → length rows ≡ j → length file ≡ j * claim.width → length row ≡ claim.width
      → IsRowOf (making_of claim) j row pairs → AreRows claim (file ++ row) (rows ++ pairs ∷ [])
  rows_more j row pairs count size is new =
      let sized : length rows * claim.width ≡ length file = ap (λ n. n * claim.width) count ∙ sym size in
      let still = rows_still row (omega (arith, sized)) in
      record {
        each = λ k lt. elim (cases_lt k j) [
          | inl before ↦
              subst (λ (ps : List Pair). IsRowOf (making_of claim) k (row_at claim.width (file ++ row) k) ps)
              (sym (get_or_append_left rows (pairs ∷ []) [] k (omega (arith, before, count))))
              (still.each k (omega (arith, before, count)))
          | inr behind ↦
              let last : j ≡ k = omega (arith, behind, lt, count, length_push rows pairs) in
              subst (λ n. IsRowOf (making_of claim) n (row_at claim.width (file ++ row) n) (get_or (rows ++ pairs ∷ []) n [])) last
              (subst (λ (ps : List Pair). IsRowOf (making_of claim) j (row_at claim.width (file ++ row) j) ps)
              (sym (get_or_push rows pairs [] j count))
              (subst (λ (r : List ℕ). IsRowOf (making_of claim) j r pairs) (sym (row_next claim.width j file row size is)) new))
        ];
      }

-- what is counted in one row more
pub tally_more : (rows : List (List Pair)) (pairs : List Pair)
    → tally_of (rows ++ pairs ∷ []) ≡ record { entries = entries_of rows + length pairs; fullest = max (fullest_of rows) (length pairs) }
tally_more rows pairs =
    let entries : entries_of (rows ++ pairs ∷ []) ≡ entries_of rows + length pairs
    = fold_push (λ (total : ℕ) (ps : List Pair). total + length ps) 0 rows pairs in
    let fullest : fullest_of (rows ++ pairs ∷ []) ≡ max (fullest_of rows) (length pairs)
    = fold_push (λ (most : ℕ) (ps : List Pair). max most (length ps)) 0 rows pairs in
    ap₂ (λ (e f : ℕ). record { entries = e; fullest = f }) entries fullest
