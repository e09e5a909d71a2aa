-- The row of a key, and what it says of it.
use Rattle.std.specs.Prelude.{ℕ, ◌≡◌, ◌<◌, ◌≤◌, ◌++◌, List, length, drop, Contains, Option, Some, None, Result, Ok, Err}
use Rattle.quantity_limits.specs.declared.TheConstants.{MOST_WIDTH}
use Rattle.key_table.specs.Digest.{digest_of, row_of}
use Rattle.key_table.specs.Entry.{Pair}
use Rattle.key_table.specs.Looked.{IsNoRow, LacksDigest, pair}
use Rattle.key_table.specs.Table.{IsRowOf, Making}
use Rattle.list_calls.specs.declared.numbers.ListNumbers.{ListNumbers}
use Rattle.list_calls.specs.declared.find.KeyFound.{KeyFound}
use Rattle.list_calls.specs.declared.find.KeyFound.TheVariants.{Broken, Absent, Present}
use Rattle.list_calls.specs.declared.find.KeyRefusal.{KeyRefusal}
use Rattle.list_calls.specs.declared.find.KeyRefusal.TheVariants.{Numbers, Room}
use Rattle.list_calls.specs.Numbers.{IsList}

-- the digest of a key
abbrev pub digest_by : ListNumbers → List ℕ → List ℕ → List ℕ
digest_by n salt key = digest_of salt n.digest_bytes key

-- the row that a key belongs to, exactly where the numbers are those of a list
abbrev pub SaysRow : ListNumbers → List ℕ → List ℕ → Option ℕ → Type 0
SaysRow n salt key (Some row) = IsList n × (row ≡ row_of n.rows (digest_by n salt key)) × (row < n.rows)
SaysRow n salt key None = IsList n → ⊥

-- what is looked up: a key, by its row of a list
pub record LookUp : Type 0 where
  pub numbers : ListNumbers
  pub salt : List ℕ
  pub tag : List ℕ
  pub row : List ℕ
  pub key : List ℕ

-- the look-up with these
abbrev pub look_up : ListNumbers → List ℕ → List ℕ → List ℕ → List ℕ → LookUp
look_up numbers salt tag row key = record { numbers = numbers; salt = salt; tag = tag; row = row; key = key }

-- the numbers are those of a list, and a row may be so long
abbrev pub MayLook : LookUp → Type 0
MayLook q = IsList q.numbers × (length q.row ≤ MOST_WIDTH)

-- what each row of the list's table is made by
abbrev pub making_for : LookUp → Making
making_for q = record {
  tag = q.tag;
  size = q.numbers.digest_bytes;
  most = q.numbers.value_bytes;
  rows = q.numbers.rows;
}

-- the digest of its key
abbrev pub digest_for : LookUp → List ℕ
digest_for q = digest_by q.numbers q.salt q.key

-- the bytes are the key's row in no table of the list
abbrev pub IsBroken : LookUp → Type 0
IsBroken q = IsNoRow (making_for q) (row_of q.numbers.rows (digest_for q)) q.row

-- they are that row of a table, with these pairs
abbrev pub IsRowWith : LookUp → List Pair → Type 0
IsRowWith q pairs = IsRowOf (making_for q) (row_of q.numbers.rows (digest_for q)) q.row pairs

-- none of which has the key's digest
abbrev pub LacksKey : LookUp → Type 0
LacksKey q = (pairs : List Pair) × IsRowWith q pairs × LacksDigest pairs (digest_for q)

-- of which one has it, with this value
abbrev pub HasValue : LookUp → List ℕ → Type 0
HasValue q value = (pairs : List Pair) × IsRowWith q pairs × Contains pairs (pair (digest_for q) value)

-- a value is written at the front of the room, where there is enough
abbrev pub WritesValue : List ℕ → List ℕ → List ℕ → Result KeyFound KeyRefusal → Type 0
WritesValue value old new (Ok (Present used)) =
    (used ≡ length value) × (used ≤ length old) × (new ≡ value ++ drop used old)
WritesValue value old new (Ok Broken) = ⊥
WritesValue value old new (Ok Absent) = ⊥
WritesValue value old new (Err (Room wanted)) = (wanted ≡ length value) × (length old < wanted) × (new ≡ old)
WritesValue value old new (Err Numbers) = ⊥

-- the key has a value by its row, of whose writing this came
pub record HasWritten (q : LookUp) (old new : List ℕ) (result : Result KeyFound KeyRefusal) : Type 0 where
  pub value : List ℕ
  pub has : HasValue q value
  pub written : WritesValue value old new result

-- what is said of the key by its row; what has no value leaves the room as it was
abbrev pub FindsKey : LookUp → List ℕ → List ℕ → Result KeyFound KeyRefusal → Type 0
FindsKey q old new (Ok Broken) = MayLook q × IsBroken q × (new ≡ old)
FindsKey q old new (Ok Absent) = MayLook q × LacksKey q × (new ≡ old)
FindsKey q old new (Ok (Present used)) = MayLook q × HasWritten q old new (Ok (Present used))
FindsKey q old new (Err (Room wanted)) = MayLook q × HasWritten q old new (Err (Room wanted))
FindsKey q old new (Err Numbers) = (MayLook q → ⊥) × (new ≡ old)
