-- Parts of the product of a query and a matrix: the sums over some of its rows.
use Rattle.std.specs.Prelude.{ℕ, List, [], slice_index, slice_index_or}
use Rattle.gf256.specs.Field.{◌⊗◌}
use Rattle.gf256.specs.Sums.{run_sum}

-- what row j gives to column c: byte j of the query times column c of the row
unfoldable pub term : List ℕ → List (List ℕ) → ℕ → ℕ → ℕ
term query rows c j = slice_index query j ⊗ slice_index (slice_index_or rows j []) c

-- what the rows from `from` up to `to` give to it
abbrev pub run_term : List ℕ → List (List ℕ) → ℕ → ℕ → ℕ → ℕ
run_term query rows from to c = run_sum (term query rows c) from to
