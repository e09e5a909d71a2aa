-- What a catalog's document has, member by member.
use Rattle.std.specs.Prelude.{◌≡◌, ℕ, pos, true, List, Option, Some, None, Result, Ok, Err, All}
use Rattle.hex.specs.Hex.{decode_sized}
use Rattle.toml.specs.Data.{integer, string, array, table, Members, get_member}
use Rattle.list_catalog.specs.declared.TheConstants.{FORMAT}
use Rattle.list_catalog.specs.declared.member.Member.{Member}
use Rattle.list_catalog.specs.declared.member.Member.TheVariants.{Digest, Entries, Format, List as ListTag, Rows, Salt, Servers, Sha256, Value, Width, Addresses, Agree, Degree}
use Rattle.list_catalog.specs.declared.member.TheConstants.{ROOT, OF_SERVERS}
use Rattle.list_catalog.specs.declared.fault.CatalogFault.{CatalogFault}
use Rattle.list_catalog.specs.declared.fault.CatalogFault.TheVariants.{TooLong, NotText, NotToml, Unfit, Memory}
use Rattle.list_catalog.specs.Member.{name_of}
use Rattle.list_catalog.specs.Serving.{CanServe, Serving}
use Rattle.list_catalog.specs.Facts.{AreSizes, Facts}
use Rattle.list_catalog.specs.Documents.{is_known, names}
use Rattle.list_catalog.specs.Reading.{IsDocument}
use Rattle.list_catalog.specs.Writing.{items_of}

-- each name is one of these members'
abbrev pub HasOnly : List Member → Members → Type 0
HasOnly known ms = All (λ name. is_known known name ≡ true) (names ms)

-- the member is this number
abbrev pub HasNumber : Members → Member → ℕ → Type 0
HasNumber ms m n = get_member (name_of m) ms ≡ Some (integer (pos n))

-- the member is a text that spells these bytes, so many, with two hexadecimal digits each
pub record HasDigits (ms : Members) (m : Member) (size : ℕ) (bytes : List ℕ) : Type 0 where
  pub text : List ℕ
  pub has : get_member (name_of m) ms ≡ Some (string text)
  pub spells : decode_sized text size ≡ Ok bytes

-- the table has the members of servers, and these are what they say
pub record HasServing (ms : Members) (s : Serving) : Type 0 where
  pub only : HasOnly OF_SERVERS ms
  pub addresses : get_member (name_of Addresses) ms ≡ Some (array (items_of s.addresses))
  pub agree : HasNumber ms Agree s.agree
  pub degree : HasNumber ms Degree s.degree
  pub can : CanServe s.addresses s.degree s.agree

-- there is no table of servers, or it is of these
abbrev pub HasServers : Members → Option Serving → Type 0
HasServers ms None = get_member (name_of Servers) ms ≡ None
HasServers ms (Some s) = (inner : Members) × (get_member (name_of Servers) ms ≡ Some (table inner)) × HasServing inner s

-- the document has the members of a catalog and no others, and what they say is this, which keeps the rules
pub record SaysCatalog (ms : Members) (f : Facts) : Type 0 where
  pub only : HasOnly ROOT ms
  pub digest : HasNumber ms Digest f.digest
  pub entries : HasNumber ms Entries f.entries
  pub format : HasNumber ms Format FORMAT
  pub tag : HasDigits ms ListTag 8 f.tag
  pub rows : HasNumber ms Rows f.rows
  pub salt : HasDigits ms Salt 16 f.salt
  pub sha256 : HasDigits ms Sha256 32 f.sha256
  pub value : HasNumber ms Value f.value
  pub width : HasNumber ms Width f.width
  pub sizes : AreSizes f.digest f.entries f.rows f.value f.width
  pub servers : HasServers ms f.servers

-- a catalog is what its document has, and a document that is refused says none
abbrev pub IsFaithful : List ℕ → Result Facts CatalogFault → Type 0
IsFaithful text (Ok f) = (ms : Members) × IsDocument text ms × SaysCatalog ms f
IsFaithful text (Err TooLong) = Unit {0}
IsFaithful text (Err NotText) = Unit {0}
IsFaithful text (Err (NotToml line why)) = Unit {0}
IsFaithful text (Err (Unfit why)) = (ms : Members) × IsDocument text ms × ((f : Facts) → SaysCatalog ms f → ⊥)
IsFaithful text (Err Memory) = Unit {0}
