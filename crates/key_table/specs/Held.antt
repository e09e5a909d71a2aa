-- A list in memory: of each pair the digest and the value behind it, all in one run of bytes.
use Rattle.std.specs.Prelude.{◌≡◌, ℕ, ◌+◌, ◌-◌, ◌<◌, ◌≤◌, List, length, map, take, drop, slice_index_or, All}
use Rattle.std.specs.List.{range_with_len}
use Rattle.key_table.specs.Entry.{Pair, AreBytes}
use Rattle.key_table.specs.Numbered.{AreNumbered, bare}
use Rattle.key_table.specs.declared.place.Place.{Place}
use Rattle.key_table.specs.declared.TheConstants.{LEAST_DIGEST, MOST_DIGEST, MOST_PAIRS}

-- a list, and how many bytes its digests have
pub record Held : Type 0 where
  pub size : ℕ
  pub pairs : List Pair

-- where the bytes of a pair start: behind all of them, where there is no such pair
abbrev pub start_of : List ℕ → List ℕ → ℕ → ℕ
start_of bytes starts place = slice_index_or starts place (length bytes)

-- the bytes of a pair
abbrev pub text_of : List ℕ → List ℕ → ℕ → List ℕ
text_of bytes starts place = take (start_of bytes starts (place + 1) - start_of bytes starts place) (drop (start_of bytes starts place) bytes)

-- the pair whose digest and value are these bytes
abbrev pub split_pair : ℕ → List ℕ → Pair
split_pair size text = record { digest = take size text; value = drop size text }

-- the pairs whose bytes start there
unfoldable pub pairs_of : ℕ → List ℕ → List ℕ → List Pair
pairs_of size bytes starts = map (λ place. split_pair size (text_of bytes starts place)) (range_with_len 0 (length starts))

-- each pair starts behind the one before it, and has a digest
pub record AreStarts (size : ℕ) (bytes starts : List ℕ) : Type 0 where
  pub least : LEAST_DIGEST ≤ size
  pub most : size ≤ MOST_DIGEST
  pub each : (place : ℕ) → place < length starts → start_of bytes starts place + size ≤ start_of bytes starts (place + 1)
  pub within : (place : ℕ) → start_of bytes starts place ≤ length bytes

-- each pair that was gathered has a digest of the size, which is one of bytes, there are no more than may be, and each has
-- its place with the number of its digest
pub record AreGathered (held : Held) (order : List Place) : Type 0 where
  pub least : LEAST_DIGEST ≤ held.size
  pub most : held.size ≤ MOST_DIGEST
  pub sizes : All (λ p. length p.digest ≡ held.size) held.pairs
  pub bytes : All (λ p. AreBytes p.digest) held.pairs
  pub few : length held.pairs ≤ MOST_PAIRS
  pub places : bare order ≡ range_with_len 0 (length held.pairs)
  pub numbers : AreNumbered held.pairs order
