-- Tables of products for all factors.
use Rattle.std.specs.Prelude.{◌≡◌, ℕ, ◌+◌, ◌*◌, ◌<◌, List, length, slice_index}
use Rattle.gf256.specs.Field.{◌⊗◌}

-- for each of the first n factors its products with 0 to 15 and with 0, 16, .. 240, 32 bytes each
pub record HasProducts (table : List ℕ) (n : ℕ) : Type 0 where
  pub size : length table ≡ 8192
  pub low : (f i : ℕ) → f < n → i < 16 → slice_index table (f * 32 + i) ≡ f ⊗ i
  pub high : (f i : ℕ) → f < n → i < 16 → slice_index table (f * 32 + 16 + i) ≡ f ⊗ (i * 16)
