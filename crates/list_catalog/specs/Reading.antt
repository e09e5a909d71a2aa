-- Which catalog a text is, or why it is none.
use Rattle.std.specs.Prelude.{◌≡◌, ◌⊎◌, ℕ, ◌+◌, ◌<◌, ◌≤◌, ◌==◌, List, length, take, count_by, Some, None, Result, Ok, Err, IsUtf8}
use Rattle.std.specs.BTreeMap.{BTreeMap}
use Rattle.std.specs.Prelude.{String}
use Rattle.std.specs.declared.alloc.Global.{Global}
use Rattle.toml.specs.Data.{Members}
use Rattle.toml.specs.View.{table_view}
use Rattle.toml.specs.declared.value.Value.{Value}
use Rattle.toml.specs.Parse.{parse_document}
use Rattle.toml.specs.Errors.{span_start}
use Rattle.key_table.specs.Entry.{newline}
use Rattle.list_catalog.specs.declared.TheConstants.{MOST_CATALOG}
use Rattle.list_catalog.specs.declared.fault.MemberFault.{MemberFault}
use Rattle.list_catalog.specs.declared.fault.CatalogFault.{CatalogFault}
use Rattle.list_catalog.specs.declared.fault.CatalogFault.TheVariants.{TooLong, NotText, NotToml, Unfit, Memory}
use Rattle.list_catalog.specs.Facts.{Facts}
use Rattle.list_catalog.specs.Documents.{catalog_in}

-- a reading comes to what a definition says, as f sees it, or memory ran out
abbrev pub ComesAs : {A B : Type 0} → (A → B) → Result B MemberFault → Result A CatalogFault → Type 0
ComesAs f wanted (Ok a) = wanted ≡ Ok (f a)
ComesAs f wanted (Err TooLong) = ⊥
ComesAs f wanted (Err NotText) = ⊥
ComesAs f wanted (Err (NotToml line why)) = ⊥
ComesAs f wanted (Err (Unfit why)) = wanted ≡ Err why
ComesAs f wanted (Err Memory) = Unit {0}

abbrev pub Comes : {A : Type 0} → Result A MemberFault → Result A CatalogFault → Type 0
Comes wanted result = ComesAs (λ a. a) wanted result

-- the line of a place in a text, counted from 1
abbrev pub line_of : List ℕ → ℕ → ℕ
line_of text place = 1 + count_by (λ b. b == newline) (take place text)

-- a text of so few bytes
pub record IsShortText (text : List ℕ) : Type 0 where
  pub short : length text ≤ MOST_CATALOG
  pub utf8 : IsUtf8 text

-- the text is a document in TOML with these members
pub record IsDocument (text : List ℕ) (ms : Members) : Type 0 where
  pub is_text : IsShortText text
  pub parsed : parse_document text ≡ Some ms

-- the text is a document, and what it says as a catalog is this
abbrev pub Says : List ℕ → Result Facts MemberFault → Type 0
Says text said = (ms : Members) × IsDocument text ms × (catalog_in ms ≡ said)

-- the text is no document in TOML: it is refused at a place in this line
pub record IsNoToml (text : List ℕ) (line place : ℕ) : Type 0 where
  pub is_text : IsShortText text
  pub refused : parse_document text ≡ None
  pub within : place ≤ length text
  pub in_line : line ≡ line_of text place

-- the document that a text is, or that it is none, or memory ran out
abbrev pub Parses : List ℕ → Result (BTreeMap (String Global) Value) CatalogFault → Type 0
Parses text (Ok document) = parse_document text ≡ Some (table_view document)
Parses text (Err TooLong) = ⊥
Parses text (Err NotText) = ⊥
Parses text (Err (NotToml line why)) = IsNoToml text line (span_start why)
Parses text (Err (Unfit why)) = ⊥
Parses text (Err Memory) = Unit {0}

-- what a reading of a text may come to
abbrev pub Reads : List ℕ → Result Facts CatalogFault → Type 0
Reads text (Ok facts) = Says text (Ok facts)
Reads text (Err TooLong) = MOST_CATALOG < length text
Reads text (Err NotText) = (length text ≤ MOST_CATALOG) × (IsUtf8 text → ⊥)
Reads text (Err (NotToml line why)) = IsNoToml text line (span_start why)
Reads text (Err (Unfit why)) = Says text (Err why)
Reads text (Err Memory) = IsShortText text

-- whatever a reading of the text comes to, it is this catalog, unless memory ran out
abbrev pub ReadsBack : List ℕ → Facts → Type 0
ReadsBack text facts =
    (result : Result Facts CatalogFault) → Reads text result → (result ≡ Ok facts) ⊎ (result ≡ Err Memory)
