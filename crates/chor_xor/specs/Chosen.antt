-- What a server answers to a bitmap, and what the answers give together (Chor, Goldreich,
-- Kushilevitz and Sudan 1995).
use Rattle.std.specs.Prelude.{◌≡◌, ℕ, ◌+◌, List, [], length, map, slice_index, slice_index_or}
use Rattle.std.specs.List.{range_with_len}
use Rattle.gf256.specs.Field.{◌⊕◌, ◌⊗◌}
use Rattle.gf256.specs.Sums.{sum_to, run_sum}
use Rattle.block_matrix.specs.Database.{Database}
use Rattle.chor_xor.specs.Bitmap.{bit_of, bitmap}

-- what row j gives to column c: the row's bit times the row's byte
unfoldable pub given : List ℕ → List (List ℕ) → ℕ → ℕ → ℕ
given bitmap rows c j = bit_of bitmap j ⊗ slice_index (slice_index_or rows j []) c

-- `new` is `old` plus the rows from `from` up to `to` whose bit is set, in each column
abbrev pub AddsChosen : List ℕ → List (List ℕ) → ℕ → ℕ → List ℕ → List ℕ → Type 0
AddsChosen bitmap rows from to old new =
    (c : ℕ) → slice_index new c ≡ slice_index old c ⊕ run_sum (given bitmap rows c) from to

-- `new` is `old` plus four rows, place by place
abbrev pub AddsFour : List ℕ → List ℕ → List ℕ → List ℕ → List ℕ → List ℕ → Type 0
AddsFour a b c d old new = (k : ℕ) → slice_index new k
    ≡ slice_index old k ⊕ (slice_index a k ⊕ slice_index b k ⊕ slice_index c k ⊕ slice_index d k)

-- column c of the sum of the rows whose bit is set
unfoldable pub chosen_at : List ℕ → List (List ℕ) → ℕ → ℕ
chosen_at bitmap rows c = sum_to (given bitmap rows c) (length rows)

-- the sum of the rows whose bit is set: a byte for each column
unfoldable pub chosen : Database → List ℕ → List ℕ
chosen m bitmap = map (chosen_at bitmap m.rows) (range_with_len 0 m.width)

-- what n honest servers answer, in the order of their numbers, where they are asked for a block
unfoldable pub answers : Database → List ℕ → ℕ → ℕ → List (List ℕ)
answers m coins n block =
    map (λ i. chosen m (bitmap coins n (length m.rows) block i)) (range_with_len 1 n)

-- column c of the sum of payloads
unfoldable pub combined_at : List (List ℕ) → ℕ → ℕ
combined_at payloads c =
    sum_to (λ i. slice_index (slice_index_or payloads i []) c) (length payloads)

-- the sum of payloads of so many bytes
unfoldable pub combined : ℕ → List (List ℕ) → List ℕ
combined width payloads = map (combined_at payloads) (range_with_len 0 width)

-- in each column the answers of n servers, which are asked for a block of r, sum to the block's byte
abbrev pub SumToBlock : Database → List ℕ → ℕ → ℕ → ℕ → Type 0
SumToBlock m coins n r block = (c : ℕ)
    → sum_to (λ i. slice_index (chosen m (bitmap coins n r block (i + 1))) c) n
    ≡ slice_index (slice_index_or m.rows block []) c

-- the answers of n servers, combined, are the block
abbrev pub CombineToBlock : Database → List ℕ → ℕ → ℕ → Type 0
CombineToBlock m coins n block =
    combined m.width (answers m coins n block) ≡ slice_index_or m.rows block []
