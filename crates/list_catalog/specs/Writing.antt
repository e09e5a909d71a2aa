-- The document and the text of a catalog.
use Rattle.std.specs.Prelude.{◌≡◌, ℕ, pos, ◌<◌, ◌≤◌, List, [], ◌∷◌, ◌++◌, length, Option, Some, None, Result, Ok, Err, codes, String, string_bytes}
use Rattle.std.specs.Cmp.Lexicographic.{slice_cmp}
use Rattle.std.specs.Fmt.{decimal}
use Rattle.std.specs.Ordering.{nat_cmp, match_ordering}
use Rattle.std.specs.declared.alloc.Global.{Global}
use Rattle.hex.specs.Hex.{encode_lower}
use Rattle.toml.specs.Data.{Data, string, integer, array, table, Items, no_items, item, Members, no_members, member}
use Rattle.toml_writer.specs.Text.{string_text}
use Rattle.list_catalog.specs.declared.TheConstants.{MOST_CATALOG, FORMAT}
use Rattle.list_catalog.specs.declared.fault.WriteFault.{WriteFault}
use Rattle.list_catalog.specs.declared.fault.WriteFault.TheVariants.{TooLong, Memory}
use Rattle.list_catalog.specs.declared.member.Member.{Member}
use Rattle.list_catalog.specs.declared.member.Member.TheVariants.{Digest, Entries, Format, List as ListTag, Rows, Salt, Servers, Sha256, Value, Width, Addresses, Agree, Degree}
use Rattle.list_catalog.specs.Member.{name_of}
use Rattle.list_catalog.specs.Serving.{Serving}
use Rattle.list_catalog.specs.Facts.{Facts}

-- a value as a member's, before others
abbrev pub at : Member → Data → Members → Members
at m d ms = member (name_of m) d ms

-- a number, bytes as two hexadecimal digits each, and texts, as values
abbrev pub number : ℕ → Data
number n = integer (pos n)

abbrev pub digits : List ℕ → Data
digits bytes = string (encode_lower bytes)

abbrev pub items_of : List (List ℕ) → Items
items_of [] = no_items
items_of (text ∷ more) = item (string text) (items_of more)

-- the table of the servers
unfoldable pub servers_document : Serving → Members
servers_document s =
    at Addresses (array (items_of s.addresses)) (at Agree (number s.agree) (at Degree (number s.degree) no_members))

-- the table of the servers, where there are some, before other members
abbrev pub with_servers : Option Serving → Members → Members
with_servers None ms = ms
with_servers (Some s) ms = at Servers (table (servers_document s)) ms

-- the document of a catalog
unfoldable pub document_of : Facts → Members
document_of f =
    at Digest (number f.digest) (at Entries (number f.entries) (at Format (number FORMAT) (at ListTag (digits f.tag)
    (at Rows (number f.rows) (at Salt (digits f.salt) (with_servers f.servers (at Sha256 (digits f.sha256)
    (at Value (number f.value) (at Width (number f.width) no_members)))))))))

-- the members, with a value at a key: it goes to its place in the order
abbrev pub with_member : List ℕ → Data → Members → Members
with_member k d no_members = member k d no_members
with_member k d (member l e ms) =
    match_ordering (slice_cmp nat_cmp k l) (member k d (member l e ms)) (member l d ms) (member l e (with_member k d ms))

-- ---- the text

-- a member and its value, in a line
abbrev pub line : Member → List ℕ → List ℕ
line m value = name_of m ++ (codes " = " ++ (value ++ codes "\n"))

-- texts behind the first, each with a comma before it, and a bracket
abbrev pub more_texts : List (List ℕ) → List ℕ
more_texts [] = codes "]"
more_texts (text ∷ more) = codes ", " ++ (string_text text ++ more_texts more)

-- texts in brackets, with commas between them
abbrev pub bracketed : List (List ℕ) → List ℕ
bracketed [] = codes "[]"
bracketed (text ∷ more) = codes "[" ++ (string_text text ++ more_texts more)

-- the lines of the servers, where there are some, under a header
abbrev pub servers_text : Option Serving → List ℕ
servers_text None = []
servers_text (Some s) =
    codes "\n[servers]\n"
    ++ (line Addresses (bracketed s.addresses) ++ (line Agree (decimal s.agree) ++ line Degree (decimal s.degree)))

-- bytes as two hexadecimal digits each, in quotes
abbrev pub quoted_digits : List ℕ → List ℕ
quoted_digits bytes = string_text (encode_lower bytes)

-- the text of a catalog: a line for each member, ascending by name, and the servers at the end
unfoldable pub catalog_text : Facts → List ℕ
catalog_text f =
    line Digest (decimal f.digest) ++ (line Entries (decimal f.entries) ++ (line Format (decimal FORMAT)
    ++ (line ListTag (quoted_digits f.tag) ++ (line Rows (decimal f.rows) ++ (line Salt (quoted_digits f.salt)
    ++ (line Sha256 (quoted_digits f.sha256) ++ (line Value (decimal f.value) ++ (line Width (decimal f.width)
    ++ servers_text f.servers))))))))

-- what a writing of a catalog comes to: its text, or that it is too long, or memory ran out
abbrev pub Writes : Facts → Result (String Global) WriteFault → Type 0
Writes f (Ok text) = (string_bytes text ≡ catalog_text f) × (length (catalog_text f) ≤ MOST_CATALOG)
Writes f (Err TooLong) = MOST_CATALOG < length (catalog_text f)
Writes f (Err Memory) = Unit {0}
