-- An entry: the digest of a key, and the key's value.
use Rattle.std.specs.Prelude.{◌≡◌, ℕ, ◌+◌, ◌-◌, ◌<◌, ◌≤◌, ◌≢◌, ◌==◌, if◌then◌else◌, List, [], ◌++◌, length, replicate, take, drop, slice_index, All}
use Rattle.std.specs.Int.{w16, to_be_bytes}

-- the digest of a key, and its value
pub record Pair : Type 0 where
  pub digest : List ℕ
  pub value : List ℕ

-- the pairs from a place up to another
abbrev pub pairs_between : List Pair → ℕ → ℕ → List Pair
pairs_between pairs start end = take (end - start) (drop start pairs)

-- bytes: numbers below 256
abbrev pub AreBytes : List ℕ → Type 0
AreBytes bytes = (i : ℕ) → slice_index bytes i < 256

-- the byte that ends a line: no value has it
abbrev pub newline : ℕ
newline = 10

-- a value of at most so many bytes, none of which ends a line
pub record IsValue (most : ℕ) (value : List ℕ) : Type 0 where
  pub few : length value ≤ most
  pub no_newline : All (λ b. b ≢ newline) value

-- a digest of so many bytes, with a value of at most so many
pub record HasSizes (size most : ℕ) (p : Pair) : Type 0 where
  pub digest_size : length p.digest ≡ size
  pub few : length p.value ≤ most

-- a digest of so many bytes, and such a value
pub record IsPair (size most : ℕ) (p : Pair) : Type 0 where
  pub digest_size : length p.digest ≡ size
  pub is_value : IsValue most p.value

-- a value as bytes: its length as two bytes, highest first, the value, and zeros up to the most that a value has. Where
-- no value has a byte, there is nothing to write
abbrev pub value_bytes : ℕ → List ℕ → List ℕ
value_bytes most value = if most == 0 then [] else to_be_bytes w16 (length value) ++ (value ++ replicate (most - length value) 0)

-- how many bytes that takes
abbrev pub value_size : ℕ → ℕ
value_size most = if most == 0 then 0 else 2 + most

-- an entry: the digest, and the value as bytes
unfoldable pub entry : ℕ → Pair → List ℕ
entry most p = p.digest ++ value_bytes most p.value

-- how many bytes an entry has
abbrev pub entry_size : ℕ → ℕ → ℕ
entry_size size most = size + value_size most
