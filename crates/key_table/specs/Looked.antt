-- What a look-up for a digest in a row comes to.
use Rattle.std.specs.Prelude.{◌≡◌, ℕ, ◌≤◌, List, length, slice_get, All, Contains, Option, Some, None, MatchOption}
use Rattle.std.specs.Borrow.{Bor}
use Rattle.std.specs.List.{flat_map}
use Rattle.quantity_limits.specs.declared.TheConstants.{MOST_WIDTH}
use Rattle.key_table.specs.Digest.{row_of}
use Rattle.key_table.specs.Entry.{Pair, IsPair, entry}
use Rattle.key_table.specs.KeyList.{IsClear}
use Rattle.key_table.specs.Table.{Making, IsRowOf, IsTable}
use Rattle.key_table.specs.declared.TheConstants.{LEAST_DIGEST, MOST_VALUE}
use Rattle.key_table.specs.declared.row.Finding.{Finding}
use Rattle.key_table.specs.declared.row.Finding.TheVariants.{Broken, Absent, Found}

-- the pair of a digest and a value
abbrev pub pair : List ℕ → List ℕ → Pair
pair digest value = record { digest = digest; value = value }

-- none of the pairs has the digest
abbrev pub LacksDigest : List Pair → List ℕ → Type 0
LacksDigest pairs digest = (value : List ℕ) → Contains pairs (pair digest value) → ⊥

-- the value that stands with a digest among pairs, or that none does
abbrev pub ValueFor : List Pair → List ℕ → Option (Bor (List ℕ)) → Type 0
ValueFor pairs digest value = MatchOption value (LacksDigest pairs digest) (λ x. Contains pairs (pair digest x.now))

-- what each row of a table is made by
abbrev pub making : List ℕ → ℕ → ℕ → ℕ → Making
making tag size most rows = record { tag = tag; size = size; most = most; rows = rows }

-- the bytes are row j of no such table
abbrev pub IsNoRow : Making → ℕ → List ℕ → Type 0
IsNoRow m j row = (pairs : List Pair) → IsRowOf m j row pairs → ⊥

-- the bytes are row j of such a table, and these are the entries in it
abbrev pub HasEntries : Making → ℕ → List ℕ → List ℕ → Type 0
HasEntries m j row entries = (pairs : List Pair) × IsRowOf m j row pairs × (entries ≡ flat_map (entry m.most) pairs)

-- the entries of row j of such a table, or that the bytes are no such row
abbrev pub FindsEntries : Making → ℕ → List ℕ → Option (Bor (List ℕ)) → Type 0
FindsEntries m j row entries = MatchOption entries (IsNoRow m j row) (λ x. HasEntries m j row x.now)

-- how many entries row j of such a table has, or that the bytes are no such row
abbrev pub JudgesRow : Making → ℕ → List ℕ → Option ℕ → Type 0
JudgesRow m j row None = IsNoRow m j row
JudgesRow m j row (Some count) = (pairs : List Pair) × IsRowOf m j row pairs × (count ≡ length pairs)

-- a look-up for a digest in a row: the value that stands with it there, or that none does. The row is broken where it
-- is the row of the digest in no table
abbrev pub LooksUp : Making → List ℕ → List ℕ → Finding → Type 0
LooksUp m row digest Broken = IsNoRow m (row_of m.rows digest) row
LooksUp m row digest (Found value) =
    (pairs : List Pair) × IsRowOf m (row_of m.rows digest) row pairs × Contains pairs (pair digest value.now)
LooksUp m row digest Absent =
    (pairs : List Pair) × IsRowOf m (row_of m.rows digest) row pairs × LacksDigest pairs digest

-- what a list has for a digest: its value, or none
abbrev pub AnswersFor : List Pair → List ℕ → Finding → Type 0
AnswersFor list digest Broken = ⊥
AnswersFor list digest (Found value) = Contains list (pair digest value.now)
AnswersFor list digest Absent = LacksDigest list digest

-- in the table of a clear list, a look-up for a digest in its row comes to what the list has for the digest
abbrev pub TableAnswers : Type 0
TableAnswers = (m : Making) (salt : List ℕ) (width : ℕ) (list : List Pair) (table : List (List ℕ)) (digest row : List ℕ) (finding : Finding)
    → IsTable m salt width list table → IsClear list → All (IsPair m.size m.most) list
    → LEAST_DIGEST ≤ m.size → m.most ≤ MOST_VALUE → width ≤ MOST_WIDTH
    → slice_get table (row_of m.rows digest) ≡ Some row → LooksUp m row digest finding → AnswersFor list digest finding
