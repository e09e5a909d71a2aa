-- Bitmaps, which say of each row of a database whether a server is asked for it (Chor, Goldreich,
-- Kushilevitz and Sudan 1995).
use Rattle.std.specs.Prelude.{◌≡◌, ℕ, ◌+◌, ◌-◌, ◌*◌, ◌/◌, ◌%◌, ◌^◌, ◌<◌, ◌≤◌, Bool, not, List, map, slice_index, ◌==◌, if◌then◌else◌}
use Rattle.std.specs.List.{range_with_len}
use Rattle.std.specs.Int.{bit_at, div_ceil}
use Rattle.gf256.specs.Field.{◌⊕◌}
use Rattle.gf256.specs.Sums.{sum_to}

-- the bit of row j: bit 7 - j mod 8 of byte j / 8, where bit 7 is the greatest
unfoldable pub bit_of : List ℕ → ℕ → ℕ
bit_of bitmap j = bit_at (slice_index bitmap (j / 8)) (7 - j % 8)

-- how many bytes a bitmap of r bits has
abbrev pub size_of : ℕ → ℕ
size_of r = div_ceil r 8

-- how many low bits of byte k are unused in a bitmap of r bits
abbrev pub unused_bits : ℕ → ℕ → ℕ
unused_bits r k = 8 * k + 8 - r

-- byte k with these bits cleared
unfoldable pub cleared : ℕ → ℕ → ℕ → ℕ
cleared r k byte = byte / 2 ^ unused_bits r k * 2 ^ unused_bits r k

-- byte k of the i-th piece of the coins, counted from 0, with the unused bits cleared
unfoldable pub random_byte : List ℕ → ℕ → ℕ → ℕ → ℕ
random_byte coins r i k = cleared r k (slice_index coins (i * size_of r + k))

-- byte k of the unit vector of a block: the block's bit alone
unfoldable pub unit_byte : ℕ → ℕ → ℕ
unit_byte block k = if k == block / 8 then 2 ^ (7 - block % 8) else 0

-- byte k of bitmap n: the sum of those of all the others and the unit vector
unfoldable pub last_byte : List ℕ → ℕ → ℕ → ℕ → ℕ → ℕ
last_byte coins n r block k = sum_to (λ i. random_byte coins r i k) (n - 1) ⊕ unit_byte block k

-- the bitmap of each of n servers, which are counted from 1: those before the last get a piece of
-- the coins each
unfoldable pub bitmap : List ℕ → ℕ → ℕ → ℕ → ℕ → List ℕ
bitmap coins n r block index =
    map (λ k. if index == n then last_byte coins n r block k else random_byte coins r (index - 1) k)
    (range_with_len 0 (size_of r))

-- no bit past those of the r rows is set
abbrev pub IsTrim : ℕ → List ℕ → Type 0
IsTrim r bitmap = (j : ℕ) → r ≤ j → bit_of bitmap j ≡ 0

-- the same as a test of the last byte: it has an unused bit that is set
unfoldable pub has_unused : ℕ → List ℕ → Bool
has_unused r bitmap =
    not (slice_index bitmap (size_of r - 1) % 2 ^ unused_bits r (size_of r - 1) == 0)

-- each byte is the sum of those at its place in n pieces of the coins, of so many bytes each
abbrev pub AreSummed : List ℕ → ℕ → ℕ → List ℕ → Type 0
AreSummed coins size n out =
    (k : ℕ) → k < size → slice_index out k ≡ sum_to (λ i. slice_index coins (i * size + k)) n
