-- How long the text of a catalog is that has no servers.
use Rattle.std.proofs.Common.{◌≡◌, ℕ, ◌+◌, ◌*◌, ◌/◌, ◌%◌, ◌^◌, ◌<◌, ◌≤◌, ◌==◌, Bool, true, false, if◌then◌else◌, List, [], ◌∷◌, ◌++◌, length, length-append, None, codes, refl, ap, arith}
use Rattle.std.specs.Fmt.{decimal, digit_glyph}
use Rattle.std.proofs.lemmas.Fmt.{length-decimal-le}
use Rattle.hex.specs.Hex.{encode_lower, lower_digits}
use Rattle.hex.proofs.HexLemmas.{length-encode_with}
use Rattle.toml_writer.specs.Text.{Encoding, basic, literal, multi_basic, multi_literal, encoded, encoding_of, escape_letter, escape_text, escaped, has, needs_escape, opening_newline, quotes_after, string_text}
use Rattle.list_catalog.specs.declared.TheConstants.{FORMAT, MOST_CATALOG}
use Rattle.list_catalog.specs.declared.member.Member.{Member}
use Rattle.list_catalog.specs.declared.member.Member.TheVariants.{Digest, Entries, Format, List as ListTag, Rows, Salt, Servers, Sha256, Value, Width, Addresses, Agree, Degree}
use Rattle.list_catalog.specs.Member.{name_of}
use Rattle.list_catalog.specs.Facts.{AreBytes, Facts, IsCatalog}
use Rattle.list_catalog.specs.Writing.{catalog_text, line, quoted_digits, servers_text}

-- one of two texts has no more bytes than both may have
either_few : (b : Bool) (xs ys : List ℕ) (n : ℕ) → length xs ≤ n → length ys ≤ n → length (if b then xs else ys) ≤ n
either_few true xs ys n one other = one
either_few false xs ys n one other = other

-- an escaped byte has at most six
escape_few : (c : ℕ) → length (escape_text c) ≤ 6
escape_few c =
    let four : length (codes "\\u00") ≡ 4 = refl in
    let two = digit_glyph true (c / 16) ∷ digit_glyph true (c % 16) ∷ [] in
    either_few (escape_letter c == 0) (codes "\\u00" ++ two) (92 ∷ escape_letter c ∷ []) 6
    (omega (arith, length-append (codes "\\u00") two, four)) (omega arith)

-- so a text has at most six times as many
escaped_few : (multi : Bool) (quotes : ℕ) (s : List ℕ) → length (escaped multi quotes s) ≤ 6 * length s
unfolding escaped
escaped_few multi quotes [] = omega arith
escaped_few multi quotes (c ∷ cs) =
    let rest = escaped multi (quotes_after multi quotes c) cs in
    let own = if needs_escape multi quotes c then escape_text c else c ∷ [] in
    let few : length own ≤ 6 = either_few (needs_escape multi quotes c) (escape_text c) (c ∷ []) 6 (escape_few c) (omega arith) in
    omega (arith, length-append own rest, few, escaped_few multi (quotes_after multi quotes c) cs)

-- with what stands around it seven more
encoded_few : (e : Encoding) (s : List ℕ) → length (encoded e s) ≤ 6 * length s + 7
encoded_few basic s = omega (arith, length-append (escaped false 0 s) (34 ∷ []), escaped_few false 0 s)
encoded_few literal s = omega (arith, length-append s (39 ∷ []))
encoded_few multi_basic s =
    let three : length (codes "\"\"\"") ≡ 3 = refl in
    let one : length (opening_newline s) ≤ 1 = either_few (has 10 s) (10 ∷ []) [] 1 (omega arith) (omega arith) in
    let text = escaped true 0 s in
    omega (
      arith,
      three,
      one,
      escaped_few true 0 s,
      length-append (codes "\"\"\"") (opening_newline s ++ (text ++ codes "\"\"\"")),
      length-append (opening_newline s) (text ++ codes "\"\"\""),
      length-append text (codes "\"\"\""),
    )
encoded_few multi_literal s =
    let three : length (codes "'''") ≡ 3 = refl in
    let one : length (opening_newline s) ≤ 1 = either_few (has 10 s) (10 ∷ []) [] 1 (omega arith) (omega arith) in
    omega (
      arith,
      three,
      one,
      length-append (codes "'''") (opening_newline s ++ (s ++ codes "'''")),
      length-append (opening_newline s) (s ++ codes "'''"),
      length-append s (codes "'''"),
    )

string_few : (s : List ℕ) → length (string_text s) ≤ 6 * length s + 7
unfolding string_text
string_few s = encoded_few (encoding_of s) s

-- how many bytes a value of a catalog has at most that has no servers: those of the longest digits
abbrev value_most : ℕ
value_most = 391

-- bytes as digits
digits_few : (size : ℕ) (bytes : List ℕ) → size ≤ 32 → AreBytes size bytes → length (quoted_digits bytes) ≤ value_most
digits_few size bytes few are =
    omega (arith, few, are.0, length-encode_with lower_digits bytes, string_few (encode_lower bytes))

-- a number
number_few : (n : ℕ) → n < 10 ^ 10 → length (decimal n) ≤ value_most
number_few n few = omega (arith, length-decimal-le 10 n (omega arith) few (omega (arith, few)))

-- a name
name_few : (m : Member) → length (name_of m) ≤ 9
name_few Digest = omega arith
name_few Entries = omega arith
name_few Format = omega arith
name_few ListTag = omega arith
name_few Rows = omega arith
name_few Salt = omega arith
name_few Servers = omega arith
name_few Sha256 = omega arith
name_few Value = omega arith
name_few Width = omega arith
name_few Addresses = omega arith
name_few Agree = omega arith
name_few Degree = omega arith

-- how many bytes a line has at most: a name, a value, and five beside them
abbrev line_most : ℕ
line_most = 405

-- one more line before a text
line_few : (m : Member) (value rest : List ℕ) (n : ℕ) → length value ≤ value_most → length rest ≤ n
    → length (line m value ++ rest) ≤ line_most + n
line_few m value rest n few short =
    let three : length (codes " = ") ≡ 3 = refl in
    let one : length (codes "\n") ≡ 1 = refl in
    omega (
      arith,
      few,
      short,
      three,
      one,
      name_few m,
      length-append (line m value) rest,
      length-append (name_of m) (codes " = " ++ (value ++ codes "\n")),
      length-append (codes " = ") (value ++ codes "\n"),
      length-append value (codes "\n"),
    )

-- where there are no servers the nine lines are the whole text
pub short_catalog : (f : Facts) → IsCatalog f → f.servers ≡ None → length (catalog_text f) ≤ MOST_CATALOG
unfolding catalog_text
short_catalog f is none =
    let sizes = is.sizes in
    let behind = servers_text f.servers in
    let from_width = line Width (decimal f.width) ++ behind in
    let from_value = line Value (decimal f.value) ++ from_width in
    let from_hash = line Sha256 (quoted_digits f.sha256) ++ from_value in
    let from_salt = line Salt (quoted_digits f.salt) ++ from_hash in
    let from_rows = line Rows (decimal f.rows) ++ from_salt in
    let from_list = line ListTag (quoted_digits f.tag) ++ from_rows in
    let from_format = line Format (decimal FORMAT) ++ from_list in
    let from_entries = line Entries (decimal f.entries) ++ from_format in
    let end : length behind ≤ 0 = omega (arith, ap (λ o. length (servers_text o)) none) in
    let width : length from_width ≤ 405 = line_few Width (decimal f.width) behind 0 (number_few f.width (omega (arith, sizes.shape.few_bytes))) end in
    let value : length from_value ≤ 810 = line_few Value (decimal f.value) from_width 405 (number_few f.value (omega (arith, sizes.short_value))) width in
    let hash : length from_hash ≤ 1215 = line_few Sha256 (quoted_digits f.sha256) from_value 810 (digits_few 32 f.sha256 (omega arith) is.sha256) value in
    let salt : length from_salt ≤ 1620 = line_few Salt (quoted_digits f.salt) from_hash 1215 (digits_few 16 f.salt (omega arith) is.salt) hash in
    let rows : length from_rows ≤ 2025 = line_few Rows (decimal f.rows) from_salt 1620 (number_few f.rows (omega (arith, sizes.shape.few_rows))) salt in
    let tag : length from_list ≤ 2430 = line_few ListTag (quoted_digits f.tag) from_rows 2025 (digits_few 8 f.tag (omega arith) is.tag) rows in
    let format : length from_format ≤ 2835 = line_few Format (decimal FORMAT) from_list 2430 (number_few FORMAT (omega arith)) tag in
    let entries : length from_entries ≤ 3240 = line_few Entries (decimal f.entries) from_format 2835 (number_few f.entries (omega (arith, sizes.few_entries))) format in
    let all : length (catalog_text f) ≤ 3645 = line_few Digest (decimal f.digest) from_entries 3240 (number_few f.digest (omega (arith, sizes.short_digest))) entries in
    omega (arith, all)
