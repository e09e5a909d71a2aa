-- The text of a catalog's document, line by line.
use Rattle.std.proofs.Common.{◌≡◌, ℕ, pos, max, ◌≤◌, ◌==◌, Bool, true, false, ◌&&◌, List, [], ◌∷◌, ◌++◌, length, Option, Some, None, codes, refl, sym, ap, ap₂, ◌∙◌, arith, subst, append-nil, lit≤}
use Rattle.std.specs.Fmt.{decimal}
use Rattle.hex.specs.Hex.{encode_lower}
use Rattle.toml.specs.Data.{Data, string, integer, array, table, Items, no_items, item, Members, no_members, member, depth, items_depth, members_depth, has_valid_dates, items_have_valid_dates, members_have_valid_dates}
use Rattle.toml.specs.Tables.{Expression, key_value, std_table}
use Rattle.toml.specs.Text.{IsDocumentText, IsItemsText, IsLinesText, IsValueText, expressions}
use Rattle.toml_writer.specs.Text.{key_text, string_text}
use Rattle.list_catalog.specs.declared.TheConstants.{FORMAT}
use Rattle.list_catalog.specs.declared.member.Member.{Member}
use Rattle.list_catalog.specs.declared.member.Member.TheVariants.{Digest, Entries, Format, List as ListTag, Rows, Salt, Servers, Sha256, Value, Width, Addresses, Agree, Degree}
use Rattle.list_catalog.specs.Member.{name_of}
use Rattle.list_catalog.specs.Facts.{Facts}
use Rattle.list_catalog.specs.Serving.{Serving}
use Rattle.list_catalog.specs.Writing.{bracketed, catalog_text, digits, document_of, items_of, line, more_texts, number, quoted_digits, servers_document, servers_text}

-- a member's name stands bare
key_text-name_of : (m : Member) → key_text (name_of m) ≡ name_of m
unfolding key_text
key_text-name_of Digest = refl
key_text-name_of Entries = refl
key_text-name_of Format = refl
key_text-name_of ListTag = refl
key_text-name_of Rows = refl
key_text-name_of Salt = refl
key_text-name_of Servers = refl
key_text-name_of Sha256 = refl
key_text-name_of Value = refl
key_text-name_of Width = refl
key_text-name_of Addresses = refl
key_text-name_of Agree = refl
key_text-name_of Degree = refl

-- texts behind the first of a list
more_items : (xs : List (List ℕ)) (text : List ℕ) → IsItemsText false false false (items_of xs) text → text ≡ more_texts xs
more_items [] text h = h
more_items (x ∷ xs) text (this, rest, whole, one, more) =
    whole ∙ ap (λ t. codes ", " ++ (t ++ rest)) one ∙ ap (λ t. codes ", " ++ (string_text x ++ t)) (more_items xs rest more)

-- the text of a list of texts
bracketed-items_of : (xs : List (List ℕ)) (text : List ℕ) → IsValueText false (array (items_of xs)) text → text ≡ bracketed xs
bracketed-items_of [] text (rest, whole, end) = whole ∙ ap (λ t. codes "[" ++ t) end
bracketed-items_of (x ∷ []) text (rest, whole, (this, more, parts, one, end)) =
    whole ∙ ap (λ t. codes "[" ++ t) (parts ∙ ap (λ t. t ++ more) one ∙ ap (λ t. string_text x ++ t) end)
bracketed-items_of (x ∷ y ∷ xs) text (rest, whole, (this, more, parts, one, end)) =
    whole ∙ ap (λ t. codes "[" ++ t) (parts ∙ ap (λ t. t ++ more) one ∙ ap (λ t. string_text x ++ t) (more_items (y ∷ xs) more end))

-- the value has this text alone
abbrev HasText : Data → List ℕ → Type 0
HasText d v = (text : List ℕ) → IsValueText false d text → text ≡ v

-- a member's line, before others
step : (m : Member) (d : Data) (v : List ℕ) (es : List Expression) (started : Bool) (text : List ℕ) → HasText d v
    → IsLinesText false started ((([], name_of m), key_value d) ∷ es) text
    → (rest : List ℕ) × (text ≡ line m v ++ rest) × IsLinesText false true es rest
step m d v es started text has (this, rest, whole, (value, in_line, is_value), more) =
    let named : this ≡ line m v = in_line ∙ ap (λ k. k ++ (codes " = " ++ (value ++ codes "\n"))) (key_text-name_of m)
    ∙ ap (λ t. name_of m ++ (codes " = " ++ (t ++ codes "\n"))) (has value is_value) in
    (rest, whole ∙ ap (λ t. t ++ rest) named, more)

-- a number's text, and that of a text
of_number : (n : ℕ) → HasText (integer (pos n)) (decimal n)
of_number n text h = h.0

of_text : (s : List ℕ) → HasText (string s) (string_text s)
of_text s text h = h

-- a member as an expression
abbrev pair : Member → Data → Expression
pair m d = (([], name_of m), key_value d)

-- a member, its value, and the value's text
record Row : Type 0 where
  member : Member
  value : Data
  text : List ℕ

-- rows as expressions, before others
abbrev rows_before : List Row → List Expression → List Expression
rows_before [] es = es
rows_before (r ∷ rs) es = pair r.member r.value ∷ rows_before rs es

-- the lines of rows, before a text
abbrev text_before : List Row → List ℕ → List ℕ
text_before [] text = text
text_before (r ∷ rs) text = line r.member r.text ++ text_before rs text

-- each value has its text
abbrev HaveTexts : List Row → Type 0
HaveTexts [] = Unit {0}
HaveTexts (r ∷ rs) = HasText r.value r.text × HaveTexts rs

-- the text of rows and of what comes behind them
rows_text : (r : Row) (rs : List Row) (es : List Expression) (started : Bool) (text : List ℕ) → HaveTexts (r ∷ rs)
    → IsLinesText false started (rows_before (r ∷ rs) es) text
    → (rest : List ℕ) × (text ≡ text_before (r ∷ rs) rest) × IsLinesText false true es rest
rows_text r [] es started text has h = step r.member r.value r.text es started text has.0 h
rows_text r (q ∷ rs) es started text has h =
    let (behind, first, more) = step r.member r.value r.text (rows_before (q ∷ rs) es) started text has.0 h in
    let (rest, others, last) = rows_text q rs es true behind has.1 more in
    (rest, first ∙ ap (λ t. line r.member r.text ++ t) others, last)

-- a number and bytes as rows
abbrev number_row : Member → ℕ → Row
number_row m n = record { member = m; value = number n; text = decimal n }

abbrev digits_row : Member → List ℕ → Row
digits_row m bytes = record { member = m; value = digits bytes; text = quoted_digits bytes }

-- the rows of servers
abbrev first_server_row : Serving → Row
first_server_row s = record { member = Addresses; value = array (items_of s.addresses); text = bracketed s.addresses }

abbrev server_rows : Serving → List Row
server_rows s = number_row Agree s.agree ∷ number_row Degree s.degree ∷ []

-- the lines of the servers, where there are some
abbrev servers_lines : Option Serving → List Expression
servers_lines None = []
servers_lines (Some s) = (([], name_of Servers), std_table) ∷ rows_before (first_server_row s ∷ server_rows s) []

-- the rows behind the first of a catalog
abbrev more_rows : Facts → List Row
more_rows f =
    number_row Entries f.entries ∷ number_row Format FORMAT ∷ digits_row ListTag f.tag ∷ number_row Rows f.rows ∷ digits_row Salt f.salt
    ∷ digits_row Sha256 f.sha256 ∷ number_row Value f.value ∷ number_row Width f.width ∷ []

-- the lines of a catalog
abbrev lines_of : Facts → List Expression
lines_of f = rows_before (number_row Digest f.digest ∷ more_rows f) (servers_lines f.servers)

-- a document has those lines
expressions-none : (f : Facts) → expressions (document_of (record f { servers = None })) ≡ lines_of (record f { servers = None })
unfolding document_of
expressions-none f = refl

expressions-some : (f : Facts) (xs : List (List ℕ)) (degree agree : ℕ)
    → expressions (document_of (record f { servers = Some (record { addresses = xs; degree = degree; agree = agree }) }))
    ≡ lines_of (record f { servers = Some (record { addresses = xs; degree = degree; agree = agree }) })
unfolding document_of servers_document
expressions-some f [] degree agree = refl
expressions-some f (x ∷ xs) degree agree = refl

expressions-document_of : (f : Facts) (o : Option Serving)
    → expressions (document_of (record f { servers = o })) ≡ lines_of (record f { servers = o })
expressions-document_of f None = expressions-none f
expressions-document_of f (Some s) = expressions-some f s.addresses s.degree s.agree

-- the text of the servers' lines
servers_text-lines : (o : Option Serving) (text : List ℕ) → IsLinesText false true (servers_lines o) text → text ≡ servers_text o
servers_text-lines None text h = h
servers_text-lines (Some s) text (this, rest, whole, head, more) =
    let (none, behind, end) = rows_text (first_server_row s) (server_rows s) [] true rest
    (bracketed-items_of s.addresses, (of_number s.agree, (of_number s.degree, tt))) more in
    let headed : this ≡ codes "\n[servers]\n" = head ∙ ap (λ k. codes "\n[" ++ (k ++ codes "]\n")) (key_text-name_of Servers) in
    let ended : text_before (first_server_row s ∷ server_rows s) none
    ≡ line Addresses (bracketed s.addresses) ++ (line Agree (decimal s.agree) ++ line Degree (decimal s.degree)) =
    ap (λ t. line Addresses (bracketed s.addresses) ++ (line Agree (decimal s.agree) ++ (line Degree (decimal s.degree) ++ t))) end
    ∙ ap (λ t. line Addresses (bracketed s.addresses) ++ (line Agree (decimal s.agree) ++ t)) (append-nil (line Degree (decimal s.degree))) in
    whole ∙ ap₂ (λ a b. a ++ b) headed (behind ∙ ended)

-- the text of a catalog's lines
text-lines : (f : Facts) (text : List ℕ) → IsLinesText false false (lines_of f) text → text ≡ catalog_text f
unfolding catalog_text
text-lines f text h =
    let (rest, whole, more) = rows_text (number_row Digest f.digest) (more_rows f) (servers_lines f.servers) false text (
      of_number f.digest,
      (
        of_number f.entries,
        (
          of_number FORMAT,
          (
            of_text (encode_lower f.tag),
            (
              of_number f.rows,
              (of_text (encode_lower f.salt), (of_text (encode_lower f.sha256), (of_number f.value, (of_number f.width, tt)))),
            ),
          ),
        ),
      ),
    ) h in
    whole ∙ ap (text_before (number_row Digest f.digest ∷ more_rows f)) (servers_text-lines f.servers rest more)

-- the text of a catalog's document is the catalog's text
pub catalog_text-document_of : (f : Facts) (text : List ℕ) → IsDocumentText false (document_of f) text → text ≡ catalog_text f
catalog_text-document_of f text h =
    text-lines f text (subst (λ es. IsLinesText false false es text) (expressions-document_of f f.servers) h)

-- how deep a list of texts nests
texts_depth : (xs : List (List ℕ)) → items_depth (items_of xs) ≡ 0
texts_depth [] = refl
texts_depth (x ∷ xs) = rw (texts_depth xs)

-- a list of texts has no date
texts_dates : (xs : List (List ℕ)) → items_have_valid_dates (items_of xs) ≡ true
texts_dates [] = refl
texts_dates (x ∷ xs) = texts_dates xs

-- a catalog's document is flat
pub depth-document_of : (f : Facts) (o : Option Serving) → members_depth (document_of (record f { servers = o })) ≤ 80
unfolding document_of servers_document
depth-document_of f None = lit≤ tt
depth-document_of f (Some s) = rw (texts_depth s.addresses) (lit≤ tt)

-- a catalog's document has no date
pub dates-document_of : (f : Facts) (o : Option Serving) → members_have_valid_dates (document_of (record f { servers = o })) ≡ true
unfolding document_of servers_document
dates-document_of f None = refl
dates-document_of f (Some s) = rw (texts_dates s.addresses)
