-- The places of a list, each with the number of its digest.
use Rattle.std.specs.Prelude.{◌≡◌, ◌==◌, ◌&&◌, ℕ, Bool, List, map, All}
use Rattle.std.specs.declared.cmp.Ordering.{Ordering}
use Rattle.std.specs.Ordering.{is_lt, nat_cmp, ordering_then}
use Rattle.key_table.specs.Digest.{number_of}
use Rattle.key_table.specs.Entry.{Pair}
use Rattle.key_table.specs.Places.{digest_at, has_same_digest, pair_at, place_cmp}
use Rattle.key_table.specs.declared.place.Place.{Place}

-- the places alone
abbrev pub bare : List Place → List ℕ
bare places = map (λ (p : Place). p.place) places

-- the numbers alone
abbrev pub numbers : List Place → List ℕ
numbers places = map (λ (p : Place). p.number) places

-- the pairs at places
abbrev pub pairs_at : List Pair → List Place → List Pair
pairs_at list places = map (pair_at list) (bare places)

-- a place has the number of the digest there
abbrev pub HasNumber : List Pair → Place → Type 0
HasNumber list p = p.number ≡ number_of (digest_at list p.place)

-- each has the number of the digest at its place
abbrev pub AreNumbered : List Pair → List Place → Type 0
AreNumbered list places = All (HasNumber list) places

-- places by their numbers, and those of one number by their digests, and then as they were given
abbrev pub numbered_cmp : List Pair → Place → Place → Ordering
numbered_cmp list one other = ordering_then (nat_cmp one.number other.number) (place_cmp list one.place other.place)

-- whether a place comes before another
abbrev pub comes_numbered : List Pair → Place → Place → Bool
comes_numbered list one other = is_lt (numbered_cmp list one other)

-- whether two places have one number and one digest
abbrev pub same_numbered : List Pair → Place → Place → Bool
same_numbered list one other = (one.number == other.number) && has_same_digest list one.place other.place
