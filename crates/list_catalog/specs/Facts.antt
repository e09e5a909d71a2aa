-- What a catalog says of a list.
use Rattle.std.specs.Prelude.{◌≡◌, ℕ, ◌+◌, ◌-◌, ◌*◌, ◌/◌, ◌≤◌, List, length, Option, IfSome}
use Rattle.hex.specs.Hex.{IsBytes}
use Rattle.quantity_limits.specs.Shape.{IsShape}
use Rattle.key_table.specs.Entry.{entry_size}
use Rattle.key_table.specs.Table.{head_size}
use Rattle.key_table.specs.declared.TheConstants.{LEAST_DIGEST, MOST_DIGEST, MOST_VALUE, MOST_PAIRS}
use Rattle.list_catalog.specs.Serving.{CanServe, Serving}

-- what a catalog says: the bytes of a digest, how many entries there are, the list's tag, how many rows the table has,
-- the salt, the SHA-256 of the database's file, the most bytes of a value, the bytes of a row, and perhaps who serves it
pub record Facts : Type 0 where
  pub digest : ℕ
  pub entries : ℕ
  pub tag : List ℕ
  pub rows : ℕ
  pub salt : List ℕ
  pub sha256 : List ℕ
  pub value : ℕ
  pub width : ℕ
  pub servers : Option Serving

-- the bytes of a row with one entry
abbrev pub least_width : ℕ → ℕ → ℕ
least_width digest value = head_size + entry_size digest value

-- for how many entries rows have room
abbrev pub room_of : ℕ → ℕ → ℕ → ℕ → ℕ
room_of digest rows value width = rows * ((width - head_size) / entry_size digest value)

-- digests and values are of sizes that they may have, the rows are a database, and they have room for the entries
pub record AreSizes (digest entries rows value width : ℕ) : Type 0 where
  pub long_digest : LEAST_DIGEST ≤ digest
  pub short_digest : digest ≤ MOST_DIGEST
  pub some_entries : 1 ≤ entries
  pub few_entries : entries ≤ MOST_PAIRS
  pub shape : IsShape rows width
  pub short_value : value ≤ MOST_VALUE
  pub wide : least_width digest value ≤ width
  pub roomy : entries ≤ room_of digest rows value width

-- so many bytes
abbrev pub AreBytes : ℕ → List ℕ → Type 0
AreBytes size bytes = (length bytes ≡ size) × IsBytes bytes

-- what every catalog keeps: its sizes fit each other, its bytes are as many as they have to be, and its servers can
-- serve
pub record IsCatalog (f : Facts) : Type 0 where
  pub sizes : AreSizes f.digest f.entries f.rows f.value f.width
  pub tag : AreBytes 8 f.tag
  pub salt : AreBytes 16 f.salt
  pub sha256 : AreBytes 32 f.sha256
  pub servers : IfSome f.servers (λ s. CanServe s.addresses s.degree s.agree)
