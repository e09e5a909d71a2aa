-- What several bitmaps ask for in sums that lie in blocks.
use Rattle.std.specs.Prelude.{◌≡◌, ℕ, List, ◌+◌, ◌*◌, ◌%◌, ◌<◌, bit_and, length, slice_index}
use Rattle.gf256.specs.Field.{◌⊕◌}
use Rattle.row_workers.specs.Pieces.{piece}
use Rattle.row_workers.specs.Blocks.{column_at, query_at}
use Rattle.row_workers.specs.declared.four_rows.FourRows.{FourRows}
use Rattle.chor_xor.specs.Bitmap.{bit_of}

-- what four rows give to place p of the sums for n bitmaps in blocks of so many lanes, by the masks
-- of each bitmap: 32 bytes for each row
unfoldable pub masked_at : ℕ → FourRows → List ℕ → ℕ → ℕ → ℕ
masked_at lanes rows masks n p =
    let c = column_at lanes (length rows.a.now) n p in
    let at = 128 * query_at lanes n p in
    bit_and (slice_index rows.a.now c) (slice_index masks (at + p % lanes))
    ⊕ bit_and (slice_index rows.b.now c) (slice_index masks (at + 32 + p % lanes))
    ⊕ bit_and (slice_index rows.c.now c) (slice_index masks (at + 64 + p % lanes))
    ⊕ bit_and (slice_index rows.d.now c) (slice_index masks (at + 96 + p % lanes))

-- the masks of the first n bitmaps, of so many bytes, for row j and for the three that follow each
-- so many rows after the one before: all bits where a bitmap asks for the row, and else none
abbrev pub AreMasks : List ℕ → List ℕ → ℕ → ℕ → ℕ → ℕ → Type 0
AreMasks masks bitmaps size n j apart =
    (v g k : ℕ) → v < n → g < 4 → k < 32
    → slice_index masks (128 * v + 32 * g + k) ≡ 255 * bit_of (piece size bitmaps v) (j + g * apart)
