-- How far a look through the places of a list is, in the order of their digests, for its clash.
use Rattle.std.specs.Prelude.{◌≡◌, ◌≢◌, ◌⊎◌, ℕ, ◌+◌, ◌<◌, ◌≤◌, List, length, slice_index, slice_index_or, All, Contains}
use Rattle.std.specs.List.Sorted.{IsSortedBy}
use Rattle.key_table.specs.Entry.{Pair}
use Rattle.key_table.specs.Numbered.{HasNumber}
use Rattle.key_table.specs.Places.{comes_before, digest_at, value_at}
use Rattle.key_table.specs.declared.clash.Scan.{Scan}
use Rattle.key_table.specs.declared.place.Place.{Place}

-- the places of a list in the order of their digests, each of them once
pub record AreOrdered (list : List Pair) (places : List ℕ) : Type 0 where
  pub up : IsSortedBy (comes_before list) places
  pub inside : All (λ k. k < length list) places
  pub whole : (k : ℕ) → k < length list → Contains places k

-- the first place that has the digest of a place
pub record IsFirst (list : List Pair) (first place : ℕ) : Type 0 where
  pub within : first < length list
  pub same : digest_at list first ≡ digest_at list place
  pub least : (other : ℕ) → other < length list → digest_at list other ≡ digest_at list place → first ≤ other

-- a place that was looked at has the value of the first of its digest, or isn't below the least that hasn't
pub record IsSeen (list : List Pair) (least place : ℕ) : Type 0 where
  pub first : ℕ
  pub is_first : IsFirst list first place
  pub settled : (value_at list first ≡ value_at list place) ⊎ (least ≤ place)

-- a place whose value isn't that of the first of its digest
pub record IsOff (list : List Pair) (first place : ℕ) : Type 0 where
  pub is_first : IsFirst list first place
  pub value : value_at list first ≢ value_at list place

-- so many places were looked at: the first place of the last one's digest, and the least place whose value is off
pub record Scanned (list : List Pair) (places : List ℕ) (done first least least_first : ℕ) : Type 0 where
  pub last : (k : ℕ) → k + 1 ≡ done → IsFirst list first (slice_index_or places k 0)
  pub off : least < length list → IsOff list least_first least
  pub seen : (k : ℕ) → k < done → IsSeen list least (slice_index_or places k 0)

-- what is known of the places that were looked at, with one more of them
abbrev pub LooksAt : List Pair → Scan → Place → Scan → Type 0
LooksAt list old place new = (places : List ℕ) (i : ℕ) → AreOrdered list places → 0 < i → i < length places → place.place ≡ slice_index places i
    → HasNumber list old.first → HasNumber list place → Scanned list places i old.first.place old.least old.least_first
    → HasNumber list new.first × Scanned list places (i + 1) new.first.place new.least new.least_first
