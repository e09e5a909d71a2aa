-- A list: pairs of a digest and a value, in any order and maybe several times, and what they are as entries.
use Rattle.std.specs.Prelude.{◌≡◌, ℕ, List, ◌++◌, map, take, All, Contains}
use Rattle.std.specs.List.{flat_map}
use Rattle.std.specs.List.Sorted.{IsStrictlySortedBy}
use Rattle.std.specs.Cmp.Lexicographic.{slice_cmp}
use Rattle.std.specs.Ordering.{nat_cmp}
use Rattle.sha2.specs.Hashers.{Holds256}
use Rattle.sha2.specs.Sha256.{sha256}
use Rattle.sha2.specs.declared.Sha256.{Sha256}
use Rattle.key_table.specs.Entry.{Pair, entry}

-- lists of bytes ascend, each once
abbrev pub Ascend : List (List ℕ) → Type 0
Ascend texts = IsStrictlySortedBy (slice_cmp nat_cmp) texts

-- the pairs of a list, ascending by their entries, each once
pub record AreSorted (most : ℕ) (list sorted : List Pair) : Type 0 where
  pub ascend : Ascend (map (entry most) sorted)
  pub all : All (Contains sorted) list
  pub only : All (Contains list) sorted

-- a list is clear where no digest stands with two values
abbrev pub IsClear : List Pair → Type 0
IsClear list = (p q : Pair) → Contains list p → Contains list q → p.digest ≡ q.digest → p ≡ q

-- the hasher took these bytes behind all that it had taken
abbrev pub Hashes : List ℕ → Sha256 → Sha256 → Type 0
Hashes bytes old new = (taken : List ℕ) → Holds256 old taken → Holds256 new (taken ++ bytes)

-- the tag of a list, by its pairs as they ascend: the first bytes of the SHA-256 of the salt and all entries
abbrev pub tag_of : List ℕ → ℕ → List Pair → List ℕ
tag_of salt most sorted = take 8 (sha256 (salt ++ flat_map (entry most) sorted))
