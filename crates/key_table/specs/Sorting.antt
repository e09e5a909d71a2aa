-- What gathering a list and sorting it come to.
use Rattle.std.specs.Prelude.{◌≡◌, ℕ, ◌<◌, ◌≤◌, List, [], ◌∷◌, ◌++◌, length, map, All, Result, Ok, Err}
use Rattle.key_table.specs.Entry.{Pair, AreBytes, HasSizes}
use Rattle.key_table.specs.Held.{Held}
use Rattle.key_table.specs.KeyList.{AreSorted, Ascend, IsClear}
use Rattle.key_table.specs.Looked.{pair}
use Rattle.key_table.specs.Numbered.{AreNumbered, bare}
use Rattle.key_table.specs.Places.{IsClash, pair_at}
use Rattle.key_table.specs.declared.place.Place.{Place}
use Rattle.key_table.specs.declared.TheConstants.{LEAST_DIGEST, MOST_DIGEST, MOST_PAIRS, MOST_VALUE}
use Rattle.key_table.specs.declared.entries.AddFault.{AddFault}
use Rattle.key_table.specs.declared.entries.AddFault.TheVariants.{TooMany, Memory}
use Rattle.key_table.specs.declared.clash.Clash.{Clash}

-- the pairs of a clear list as they ascend, the bytes of their digests and the most bytes of a value
pub record Sorted : Type 0 where
  pub size : ℕ
  pub most : ℕ
  pub pairs : List Pair

-- the digests of pairs ascend, and each pair has the sizes that are said of all
pub record AreAscending (sorted : Sorted) : Type 0 where
  pub least : LEAST_DIGEST ≤ sorted.size
  pub most_size : sorted.size ≤ MOST_DIGEST
  pub most_value : sorted.most ≤ MOST_VALUE
  pub few : length sorted.pairs ≤ MOST_PAIRS
  pub sizes : All (HasSizes sorted.size sorted.most) sorted.pairs
  pub bytes : All (λ p. AreBytes p.digest) sorted.pairs
  pub ascend : Ascend (map (λ p. p.digest) sorted.pairs)

-- the pairs at the places of a list that are kept, with values of at most so many bytes
abbrev pub kept : Held → ℕ → List Place → Sorted
kept held most places = record { size = held.size; most = most; pairs = map (pair_at held.pairs) (bare places) }

-- they ascend, and each place has the number of its digest
pub record AreKept (held : Held) (most : ℕ) (places : List Place) : Type 0 where
  pub ascend : AreAscending (kept held most places)
  pub numbers : AreNumbered held.pairs places

-- one more pair stands behind the others; where there are too many, or no memory, nothing changed
abbrev pub Adds : Held → List ℕ → List ℕ → Result (Unit {0}) AddFault → Held → Type 0
Adds old digest value (Ok done) new = (length old.pairs < MOST_PAIRS) × (new ≡ record { size = old.size; pairs = old.pairs ++ pair digest value ∷ [] })
Adds old digest value (Err TooMany) new = (length old.pairs ≡ MOST_PAIRS) × (new ≡ old)
Adds old digest value (Err Memory) new = (length old.pairs < MOST_PAIRS) × (new ≡ old)

-- the entries of a list, where it is clear; else its clash
abbrev pub Sorts : Held → ℕ → Result Sorted Clash → Type 0
Sorts list most (Ok sorted) = (sorted.size ≡ list.size) × (sorted.most ≡ most) × IsClear list.pairs × AreSorted most list.pairs sorted.pairs
Sorts list most (Err clash) = IsClash list.pairs clash.first clash.place
