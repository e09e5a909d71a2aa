-- Coins in pieces of one size, where something is added to one piece.
use Rattle.std.specs.Prelude.{ℕ, ◌/◌, ◌%◌, List, length, map, slice_index, ◌==◌, if◌then◌else◌}
use Rattle.std.specs.List.{range_with_len}
use Rattle.gf256.specs.Field.{◌⊕◌}

-- what is added to byte i of all coins where f e is added to byte e of one piece
unfoldable pub addend : (ℕ → ℕ) → ℕ → ℕ → ℕ → ℕ
addend f size piece i = if i / size == piece then f (i % size) else 0

-- the coins with f e added to byte e of one piece, for each e
unfoldable pub added : List ℕ → ℕ → ℕ → (ℕ → ℕ) → List ℕ
added coins size piece f =
    map (λ i. slice_index coins i ⊕ addend f size piece i) (range_with_len 0 (length coins))
