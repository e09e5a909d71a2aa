-- Blocks of 128 columns, in four vectors.
use Rattle.std.specs.Prelude.{◌≡◌, ℕ, ◌+◌, List}
use Rattle.std.specs.Simd.Lanes.{chunk}

-- the bytes of a row in the block from a column on are those of four vectors
pub record IsBlock (row : List ℕ) (at : ℕ) (block : List ℕ × List ℕ × List ℕ × List ℕ) : Type 0 where
  pub a : chunk at 32 row ≡ block.0
  pub b : chunk (at + 32) 32 row ≡ block.1
  pub c : chunk (at + 64) 32 row ≡ block.2
  pub d : chunk (at + 96) 32 row ≡ block.3
