-- What a document says as a catalog, or why it is none.
use Rattle.std.specs.Prelude.{ℕ, ℤ, pos, negsuc, ◌*◌, ◌&&◌, not, nat_lt, nat_le, Bool, if◌then◌else◌, List, [], ◌∷◌, Option, Some, None, option_map, Result, Ok, Err}
use Rattle.std.specs.List.{find, list_any}
use Rattle.std.specs.Str.{bytes_eq}
use Rattle.hex.specs.Hex.{decode_sized}
use Rattle.hex.specs.declared.error.FromHexError.{FromHexError}
use Rattle.toml.specs.Data.{Data, string, integer, float, boolean, datetime, array, table, Items, no_items, item, Members, no_members, member, get_member}
use Rattle.quantity_limits.specs.declared.TheConstants.{MOST_ROWS, MOST_WIDTH, MOST_CELLS, MOST_DEGREE, MOST_SERVERS}
use Rattle.key_table.specs.declared.TheConstants.{LEAST_DIGEST, MOST_DIGEST, MOST_VALUE, MOST_PAIRS}
use Rattle.list_catalog.specs.declared.TheConstants.{FORMAT}
use Rattle.list_catalog.specs.declared.range.Range.{Range}
use Rattle.list_catalog.specs.declared.member.Member.{Member}
use Rattle.list_catalog.specs.declared.member.Member.TheVariants.{Digest, Entries, Format, List as ListTag, Rows, Salt, Servers as ServersTable, Sha256, Value, Width, Addresses, Agree, Degree}
use Rattle.list_catalog.specs.declared.member.TheConstants.{ROOT, OF_SERVERS}
use Rattle.list_catalog.specs.declared.fault.MemberFault.{MemberFault}
use Rattle.list_catalog.specs.declared.fault.MemberFault.TheVariants.{Unknown, Missing, NotNumber, OutOfRange, NotDigits, TooNarrow, TooLarge, TooMany, NotTable, NotTexts, Servers}
use Rattle.list_catalog.specs.declared.fault.ServersFault.{ServersFault}
use Rattle.list_catalog.specs.Member.{name_of}
use Rattle.list_catalog.specs.Serving.{Serving, checked}
use Rattle.list_catalog.specs.Facts.{Facts, least_width, room_of}
use Rattle.list_catalog.specs.Steps.{◌>>=◌}

-- the names of members, in their order
abbrev pub names : Members → List (List ℕ)
names no_members = []
names (member k d ms) = k ∷ names ms

-- whether a name is one of these members'
abbrev pub is_known : List Member → List ℕ → Bool
is_known known name = list_any (λ m. bytes_eq name (name_of m)) known

-- the first name that is none of these members'
abbrev pub stranger : List Member → Members → Option (List ℕ)
stranger known ms = find (λ name. not (is_known known name)) (names ms)

-- that there are these members alone
abbrev pub no_stranger : Option (List ℕ) → Result (Unit {0}) MemberFault
no_stranger (Some name) = Err (Unknown name)
no_stranger None = Ok tt

-- a number, where it is one from least to most
abbrev pub ranged : ℤ → ℕ → ℕ → Option ℕ
ranged (pos n) least most = if nat_le least n && nat_le n most then Some n else None
ranged (negsuc n) least most = None

-- that number, or that it is out of its range
abbrev pub number_or : Member → ℤ → ℕ → ℕ → Option ℕ → Result ℕ MemberFault
number_or m z least most (Some n) = Ok n
number_or m z least most None = Err (OutOfRange m z (record { least = least; most = most }))

abbrev pub number_among : Member → ℕ → ℕ → Option Data → Result ℕ MemberFault
number_among m least most None = Err (Missing m)
number_among m least most (Some (integer z)) = number_or m z least most (ranged z least most)
number_among m least most (Some _) = Err (NotNumber m)

-- the number of a member, from least to most
unfoldable pub number_in : Members → Member → ℕ → ℕ → Result ℕ MemberFault
number_in ms m least most = number_among m least most (get_member (name_of m) ms)

-- the bytes that a member's digits are
abbrev pub decoded : Member → ℕ → Result (List ℕ) FromHexError → Result (List ℕ) MemberFault
decoded m size (Ok bytes) = Ok bytes
decoded m size (Err _) = Err (NotDigits m (2 * size))

abbrev pub digits_among : Member → ℕ → Option Data → Result (List ℕ) MemberFault
digits_among m size None = Err (Missing m)
digits_among m size (Some (string text)) = decoded m size (decode_sized text size)
digits_among m size (Some _) = Err (NotDigits m (2 * size))

-- the bytes of a member, so many, by two hexadecimal digits each
unfoldable pub digits_in : Members → Member → ℕ → Result (List ℕ) MemberFault
digits_in ms m size = digits_among m size (get_member (name_of m) ms)

-- that a row has room for an entry, the rows are no more than a database, and have room for all entries
unfoldable pub fitting : ℕ → ℕ → ℕ → ℕ → ℕ → Result (Unit {0}) MemberFault
fitting digest entries rows value width =
    if nat_lt width (least_width digest value) then Err (TooNarrow width (least_width digest value))
    else if nat_lt MOST_CELLS (rows * width) then Err (TooLarge rows width)
    else if nat_lt (room_of digest rows value width) entries
    then Err (TooMany entries (room_of digest rows value width))
    else Ok tt

-- the texts of a list that has only texts
abbrev pub texts : Items → Option (List (List ℕ))
texts no_items = Some []
texts (item (string text) ds) = option_map (λ more. text ∷ more) (texts ds)
texts (item _ ds) = None

abbrev pub all_texts : Option (List (List ℕ)) → Result (List (List ℕ)) MemberFault
all_texts (Some found) = Ok found
all_texts None = Err NotTexts

abbrev pub addresses_among : Option Data → Result (List (List ℕ)) MemberFault
addresses_among None = Err (Missing Addresses)
addresses_among (Some (array ds)) = all_texts (texts ds)
addresses_among (Some _) = Err NotTexts

-- the addresses in the table of servers
unfoldable pub addresses_in : Members → Result (List (List ℕ)) MemberFault
addresses_in ms = addresses_among (get_member (name_of Addresses) ms)

-- the fault of servers is one of the member
abbrev pub of_servers : Result Serving ServersFault → Result Serving MemberFault
of_servers (Ok serving) = Ok serving
of_servers (Err why) = Err (Servers why)

-- what the members of the table of servers say
unfoldable pub servers_of : Members → Result Serving MemberFault
servers_of ms = do
  only ← no_stranger (stranger OF_SERVERS ms)
  addresses ← addresses_in ms
  agree ← number_in ms Agree 1 MOST_SERVERS
  degree ← number_in ms Degree 1 MOST_DEGREE
  of_servers (checked addresses degree agree)

abbrev pub some_servers : Result Serving MemberFault → Result (Option Serving) MemberFault
some_servers (Ok serving) = Ok (Some serving)
some_servers (Err why) = Err why

abbrev pub servers_among : Option Data → Result (Option Serving) MemberFault
servers_among None = Ok None
servers_among (Some (table ms)) = some_servers (servers_of ms)
servers_among (Some _) = Err NotTable

-- the servers of a document, where it has some
unfoldable pub servers_in : Members → Result (Option Serving) MemberFault
servers_in ms = servers_among (get_member (name_of ServersTable) ms)

-- what a document says as a catalog, or the first fault that it has as one
unfoldable pub catalog_in : Members → Result Facts MemberFault
catalog_in ms = do
  only ← no_stranger (stranger ROOT ms)
  digest ← number_in ms Digest LEAST_DIGEST MOST_DIGEST
  entries ← number_in ms Entries 1 MOST_PAIRS
  format ← number_in ms Format FORMAT FORMAT
  tag ← digits_in ms ListTag 8
  rows ← number_in ms Rows 1 MOST_ROWS
  salt ← digits_in ms Salt 16
  sha256 ← digits_in ms Sha256 32
  value ← number_in ms Value 0 MOST_VALUE
  width ← number_in ms Width 1 MOST_WIDTH
  fits ← fitting digest entries rows value width
  servers ← servers_in ms
  Ok (record {
    digest = digest;
    entries = entries;
    tag = tag;
    rows = rows;
    salt = salt;
    sha256 = sha256;
    value = value;
    width = width;
    servers = servers;
  })
