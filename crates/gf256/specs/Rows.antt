-- Rows to which something is added, place by place.
use Rattle.std.specs.Prelude.{◌≡◌, ℕ, ◌+◌, ◌<◌, ◌≤◌, List, length, slice_index}
use Rattle.gf256.specs.Field.{◌⊕◌, ◌⊗◌}

-- place k of f times a row
abbrev pub multiple : List ℕ → ℕ → ℕ → ℕ
multiple row f k = f ⊗ slice_index row k

-- `new` is `old` plus g in the places from `from` up to `to`, and `old` in the others
pub record IsAdded (new old : List ℕ) (g : ℕ → ℕ) (from to : ℕ) : Type 0 where
  pub before : (k : ℕ) → k < from → slice_index new k ≡ slice_index old k
  pub added : (k : ℕ) → from ≤ k → k < to → slice_index new k ≡ slice_index old k ⊕ g k
  pub after : (k : ℕ) → to ≤ k → slice_index new k ≡ slice_index old k

-- n lanes have what g has in the places from `at` on
pub record AreLanes (n : ℕ) (lanes : List ℕ) (g : ℕ → ℕ) (at : ℕ) : Type 0 where
  pub size : length lanes ≡ n
  pub each : (k : ℕ) → k < n → slice_index lanes k ≡ g (at + k)
