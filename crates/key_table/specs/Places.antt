-- The places of a list as it was given: what stands there, and where two of them clash.
use Rattle.std.specs.Prelude.{◌≡◌, ◌≢◌, ℕ, ◌<◌, ◌≤◌, Bool, List, [], length, slice_index_or}
use Rattle.std.specs.Cmp.Lexicographic.{slice_cmp}
use Rattle.std.specs.declared.cmp.Ordering.{Ordering}
use Rattle.std.specs.Ordering.{is_eq, is_lt, nat_cmp, ordering_then}
use Rattle.key_table.specs.Entry.{Pair}

-- the pair at a place: an empty one behind the last
abbrev pub pair_at : List Pair → ℕ → Pair
pair_at list place = slice_index_or list place (record { digest = []; value = [] })

-- the digest at a place
abbrev pub digest_at : List Pair → ℕ → List ℕ
digest_at list place = (pair_at list place).digest

-- the value at a place
abbrev pub value_at : List Pair → ℕ → List ℕ
value_at list place = (pair_at list place).value

-- places by their digests, and those of one digest as they were given
unfoldable pub place_cmp : List Pair → ℕ → ℕ → Ordering
place_cmp list one other = ordering_then (slice_cmp nat_cmp (digest_at list one) (digest_at list other)) (nat_cmp one other)

-- the digest at a place stands with another value at an earlier one
pub record Clashes (list : List Pair) (earlier place : ℕ) : Type 0 where
  pub before : earlier < place
  pub within : place < length list
  pub digest : digest_at list earlier ≡ digest_at list place
  pub value : value_at list earlier ≢ value_at list place

-- the clash of a list: the least place whose digest stands with another value at an earlier one, and the first place of
-- that digest
pub record IsClash (list : List Pair) (first place : ℕ) : Type 0 where
  pub clashes : Clashes list first place
  pub earliest : (other : ℕ) → other < length list → digest_at list other ≡ digest_at list place → first ≤ other
  pub least : (earlier other : ℕ) → Clashes list earlier other → place ≤ other

-- whether a place comes before another
abbrev pub comes_before : List Pair → ℕ → ℕ → Bool
comes_before list one other = is_lt (place_cmp list one other)

-- whether two places have one digest
abbrev pub has_same_digest : List Pair → ℕ → ℕ → Bool
has_same_digest list one other = is_eq (slice_cmp nat_cmp (digest_at list one) (digest_at list other))
