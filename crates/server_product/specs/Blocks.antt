-- What four rows give to the sums of several queries in blocks.
use Rattle.std.specs.Prelude.{◌≡◌, ℕ, List, ◌+◌, ◌*◌, ◌<◌, length, slice_index}
use Rattle.gf256.specs.Field.{◌⊕◌, ◌⊗◌}
use Rattle.row_workers.specs.Blocks.{column_at, query_at}
use Rattle.row_workers.specs.declared.four_rows.FourRows.{FourRows}

-- what four rows give to place p of the sums of n queries in blocks of so many lanes, by the factors
-- of each query, four after the other
unfoldable pub four_at : ℕ → FourRows → List ℕ → ℕ → ℕ → ℕ
four_at lanes rows factors n p =
    let c = column_at lanes (length rows.a.now) n p in
    let v = query_at lanes n p in
    slice_index factors (4 * v) ⊗ slice_index rows.a.now c
    ⊕ slice_index factors (4 * v + 1) ⊗ slice_index rows.b.now c
    ⊕ slice_index factors (4 * v + 2) ⊗ slice_index rows.c.now c
    ⊕ slice_index factors (4 * v + 3) ⊗ slice_index rows.d.now c

-- for each of the first n queries, of so many bytes, its bytes for row j and for the three that follow
-- each so many rows after the one before, four after the other
abbrev pub AreFactors : List ℕ → List ℕ → ℕ → ℕ → ℕ → ℕ → Type 0
AreFactors factors queries size n j apart = (v g : ℕ) → v < n → g < 4
    → slice_index factors (4 * v + g) ≡ slice_index queries (v * size + (j + g * apart))
