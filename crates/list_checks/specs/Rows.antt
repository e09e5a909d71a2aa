-- The rows of a file, as rows of a list's table.
use Rattle.std.specs.Prelude.{◌≡◌, ℕ, ◌<◌, max, List, [], length, get_or}
use Rattle.std.specs.List.{fold, sum_by}
use Rattle.block_matrix.specs.Database.{row_at}
use Rattle.key_table.specs.Entry.{Pair}
use Rattle.key_table.specs.Table.{IsRowOf}
use Rattle.list_checks.specs.Claims.{making_of}
use Rattle.list_checks.specs.declared.claim.Claim.{Claim}
use Rattle.list_checks.specs.declared.tally.Tally.{Tally}

-- the first rows of the file are rows of the list's table, each the one of its number, and these are their pairs
pub record AreRows (claim : Claim) (file : List ℕ) (rows : List (List Pair)) : Type 0 where
  pub each : (j : ℕ) → j < length rows → IsRowOf (making_of claim) j (row_at claim.width file j) (get_or rows j [])

-- so many rows from the first on are rows of the list's table
abbrev pub HasRows : Claim → ℕ → List ℕ → Type 0
HasRows claim count file = (rows : List (List Pair)) × (length rows ≡ count) × AreRows claim file rows

-- how many entries rows have together
abbrev pub entries_of : List (List Pair) → ℕ
entries_of rows = sum_by length rows

-- how many the fullest of them has
abbrev pub fullest_of : List (List Pair) → ℕ
fullest_of rows = fold (λ most pairs. max most (length pairs)) 0 rows

-- what is counted in rows
abbrev pub tally_of : List (List Pair) → Tally
tally_of rows = record { entries = entries_of rows; fullest = fullest_of rows }
