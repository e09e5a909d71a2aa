-- A document is read as a catalog exactly where it says one.
use Rattle.std.proofs.Common.{◌≡◌, ◌≢◌, ℕ, ℤ, pos, negsuc, zero, suc, ◌+◌, ◌*◌, ◌/◌, ◌<◌, ◌≤◌, ◌==◌, ◌&&◌, ◌||◌, not, nat_le, leb, le-leb, List, [], ◌∷◌, length, Bool, true, false, cond, Option, Some, None, option_map, Result, Ok, Err, inl, inr, refl, sym, ap, ap₂, subst, ◌∙◌, arith}
use Rattle.std.specs.Prelude.{nat_lt, All}
use Rattle.std.specs.List.{find, position_from}
use Rattle.std.proofs.lemmas.Bool.{and_parts, cases_Bool, le-ltb, leb-false, leb-true, ltb-false}
use Rattle.std.proofs.lemmas.Bool.Decides.{nat_tests}
use Rattle.std.proofs.lemmas.Option.{same_Some}
use Rattle.std.proofs.lemmas.List.Elements.{All-head, All-tail, All-nil, All-cons}
use Rattle.hex.specs.Hex.{decode_sized}
use Rattle.hex.specs.declared.error.FromHexError.{FromHexError}
use Rattle.toml.specs.Data.{Data, Members, get_member, integer, string, table, float, boolean, datetime, array, Items, no_items, item}
use Rattle.quantity_limits.specs.declared.TheConstants.{LEAST_SERVERS, MOST_SERVERS, MOST_DEGREE, MOST_CELLS, MOST_ROWS, MOST_WIDTH}
use Rattle.key_table.specs.declared.TheConstants.{LEAST_DIGEST, MOST_DIGEST, MOST_VALUE, MOST_PAIRS}
use Rattle.list_catalog.specs.declared.TheConstants.{FORMAT}
use Rattle.list_catalog.specs.declared.fault.MemberFault.{MemberFault}
use Rattle.list_catalog.specs.declared.fault.ServersFault.{ServersFault}
use Rattle.list_catalog.specs.declared.member.Member.{Member}
use Rattle.list_catalog.specs.declared.member.Member.TheVariants.{Digest, Entries, Format, List as ListTag, Rows, Salt, Servers, Sha256, Value, Width, Addresses, Agree, Degree}
use Rattle.list_catalog.specs.declared.member.TheConstants.{ROOT, OF_SERVERS}
use Rattle.list_catalog.specs.Member.{name_of}
use Rattle.list_catalog.specs.Steps.{◌>>=◌}
use Rattle.list_catalog.specs.Serving.{CanServe, Serving, checked, checked_degree, checked_named, empty_place}
use Rattle.list_catalog.specs.Facts.{AreSizes, Facts, least_width, room_of}
use Rattle.list_catalog.specs.Documents.{addresses_among, addresses_in, all_texts, catalog_in, decoded, digits_among, digits_in, fitting, is_known, names, no_stranger, number_among, number_in, number_or, of_servers, ranged, servers_among, servers_in, servers_of, some_servers, stranger, texts}
use Rattle.list_catalog.specs.Said.{HasDigits, HasNumber, HasOnly, HasServers, HasServing, SaysCatalog}
use Rattle.list_catalog.specs.Writing.{items_of}
use Rattle.list_catalog.proofs.Servings.{all_named}

-- ---- what a document says is read

-- a name is one of these members'
abbrev IsKnown : List Member → List ℕ → Type 0
IsKnown known name = is_known known name ≡ true

-- an address is not empty
abbrev IsNamed : List ℕ → Type 0
IsNamed address = 0 < length address

-- known names have no stranger among them
only_known : (known : List Member) (ns : List (List ℕ)) → All (λ name. is_known known name ≡ true) ns
    → find (λ name. not (is_known known name)) ns ≡ None
only_known known [] h = refl
only_known known (n ∷ ns) h =
    let here : is_known known n ≡ true = All-head (IsKnown known) n ns h in
    rw here (only_known known ns (All-tail (IsKnown known) n ns h))

no_stranger-only : (known : List Member) (ms : Members) → HasOnly known ms → no_stranger (stranger known ms) ≡ Ok tt
no_stranger-only known ms h = ap no_stranger (only_known known (names ms) h)

-- a number in its range is read
number_in-at : (ms : Members) (m : Member) (least most n : ℕ) → HasNumber ms m n → least ≤ n → n ≤ most → number_in ms m least most ≡ Ok n
unfolding number_in
number_in-at ms m least most n has low high =
    let among : number_among m least most (Some (integer (pos n))) ≡ Ok n = rw (le-leb least n low, le-leb n most high) in
    ap (number_among m least most) has ∙ among

-- so are digits
digits_in-at : (ms : Members) (m : Member) (size : ℕ) (bytes : List ℕ) → HasDigits ms m size bytes → digits_in ms m size ≡ Ok bytes
unfolding digits_in
digits_in-at ms m size bytes has = ap (digits_among m size) has.has ∙ ap (decoded m size) has.spells

-- sizes that fit each other
fitting-sizes : (digest entries rows value width : ℕ) → AreSizes digest entries rows value width → fitting digest entries rows value width ≡ Ok tt
unfolding fitting
fitting-sizes digest entries rows value width are =
    rw (
      le-ltb width (least_width digest value) are.wide,
      le-ltb MOST_CELLS (rows * width) are.shape.few_cells,
      le-ltb (room_of digest rows value width) entries are.roomy,
    )

-- the texts of a list of texts
texts-items_of : (xs : List (List ℕ)) → texts (items_of xs) ≡ Some xs
texts-items_of [] = refl
texts-items_of (x ∷ xs) = ap (option_map (λ more. x ∷ more)) (texts-items_of xs)

-- where no address is empty there is no place of one
none_empty : (xs : List (List ℕ)) (i : ℕ) → All (λ address. 0 < length address) xs
    → position_from (λ address. length address == 0) i xs ≡ None
none_empty [] i h = refl
none_empty (x ∷ xs) i h =
    let some : 0 < length x = All-head IsNamed x xs h in
    let full : (length x == 0) ≡ false = grind (arith, nat_tests) in
    rw full (none_empty xs (i + 1) (All-tail IsNamed x xs h))

-- servers that can serve pass
checked-can : (xs : List (List ℕ)) (degree agree : ℕ) → CanServe xs degree agree
    → checked xs degree agree ≡ Ok (record { addresses = xs; degree = degree; agree = agree })
unfolding checked
checked-can xs degree agree can =
    let some : nat_lt (length xs) LEAST_SERVERS ≡ false = le-ltb (length xs) LEAST_SERVERS can.some in
    let few : nat_lt MOST_SERVERS (length xs) ≡ false = le-ltb MOST_SERVERS (length xs) can.few in
    let some_degree : 1 ≤ degree = can.hidden in
    let hidden : (degree == 0) ≡ false = grind (arith, nat_tests) in
    let above : degree < agree = can.strong in
    let strong : nat_le agree degree ≡ false = grind (arith, nat_tests) in
    let within : nat_lt (length xs) agree ≡ false = le-ltb (length xs) agree can.within in
    rw (some, few, none_empty xs 0 can.named, hidden, strong, within)

-- the addresses of servers are read
addresses_in-at : (ms : Members) (xs : List (List ℕ)) → get_member (name_of Addresses) ms ≡ Some (array (items_of xs)) → addresses_in ms ≡ Ok xs
unfolding addresses_in
addresses_in-at ms xs has = ap addresses_among has ∙ ap all_texts (texts-items_of xs)

-- the servers of a table are read
servers_of-at : (ms : Members) (s : Serving) → HasServing ms s → servers_of ms ≡ Ok s
unfolding servers_of
servers_of-at ms s has =
    let can = has.can in
    let only = no_stranger-only OF_SERVERS ms has.only in
    let addresses = addresses_in-at ms s.addresses has.addresses in
    let agree = number_in-at ms Agree 1 MOST_SERVERS s.agree has.agree (omega (arith, can.strong)) (omega (arith, can.within, can.few)) in
    let degree = number_in-at ms Degree 1 MOST_DEGREE s.degree has.degree can.hidden (omega (arith, can.strong, can.within, can.few)) in
    rw (only, addresses, agree, degree, checked-can s.addresses s.degree s.agree can)

servers_in-at : (ms : Members) (o : Option Serving) → HasServers ms o → servers_in ms ≡ Ok o
unfolding servers_in
servers_in-at ms None has = ap servers_among has
servers_in-at ms (Some s) (inner, has, serving) = ap servers_among has ∙ ap some_servers (servers_of-at inner s serving)

-- what a document says is read as it
pub catalog_in-says : (ms : Members) (f : Facts) → SaysCatalog ms f → catalog_in ms ≡ Ok f
unfolding catalog_in
catalog_in-says ms f says =
    let sizes = says.sizes in
    let only = no_stranger-only ROOT ms says.only in
    let digest = number_in-at ms Digest LEAST_DIGEST MOST_DIGEST f.digest says.digest sizes.long_digest sizes.short_digest in
    let entries = number_in-at ms Entries 1 MOST_PAIRS f.entries says.entries sizes.some_entries sizes.few_entries in
    let format = number_in-at ms Format FORMAT FORMAT FORMAT says.format (omega arith) (omega arith) in
    let tag = digits_in-at ms ListTag 8 f.tag says.tag in
    let rows = number_in-at ms Rows 1 MOST_ROWS f.rows says.rows sizes.shape.some_rows sizes.shape.few_rows in
    let salt = digits_in-at ms Salt 16 f.salt says.salt in
    let sha256 = digits_in-at ms Sha256 32 f.sha256 says.sha256 in
    let value = number_in-at ms Value 0 MOST_VALUE f.value says.value (omega arith) sizes.short_value in
    let width = number_in-at ms Width 1 MOST_WIDTH f.width says.width sizes.shape.some_bytes sizes.shape.few_bytes in
    let fits = fitting-sizes f.digest f.entries f.rows f.value f.width sizes in
    let servers = servers_in-at ms f.servers says.servers in
    rw (only, digest, entries, format, tag, rows, salt, sha256, value, width, fits, servers)

-- ---- what is read of a document, it says

-- a step gave a value, and the next from it
bind_ok : {A B E : Type 0} (r : Result A E) (next : A → Result B E) (y : B) → (r >>= next) ≡ Ok y
    → (x : A) × (r ≡ Ok x) × (next x ≡ Ok y)
bind_ok (Ok x) next y h = (x, refl, h)
bind_ok (Err e) next y h = cc

-- a value in a result
pub unwrapped : {A E : Type 0} (x y : A) → ◌≡◌ {A = Result A E} (Ok x) (Ok y) → x ≡ y
unwrapped x y h = cc

-- no stranger, so all are known
known_only : (known : List Member) (ns : List (List ℕ)) → find (λ name. not (is_known known name)) ns ≡ None
    → All (λ name. is_known known name ≡ true) ns
known_only known [] h = All-nil (IsKnown known)
known_only known (n ∷ ns) h =
    elim (cases_Bool (is_known known n)) [
      | inl is ↦ All-cons (IsKnown known) n ns is (known_only known ns (rw is at h))
      | inr isnt ↦ let found : Some n ≡ None = rw isnt at h in cc
    ]

no_stranger-none : (o : Option (List ℕ)) (u : Unit {0}) → no_stranger o ≡ Ok u → o ≡ None
no_stranger-none None u h = refl
no_stranger-none (Some name) u h = cc

only-read : (known : List Member) (ms : Members) (u : Unit {0}) → no_stranger (stranger known ms) ≡ Ok u → HasOnly known ms
only-read known ms u h = known_only known (names ms) (no_stranger-none (stranger known ms) u h)

-- what a number that is read is
record IsRead (o : Option Data) (least most n : ℕ) : Type 0 where
  is : o ≡ Some (integer (pos n))
  low : least ≤ n
  high : n ≤ most

ranged-read : (z : ℤ) (least most n : ℕ) → ranged z least most ≡ Some n → IsRead (Some (integer z)) least most n
ranged-read (pos k) least most n h =
    elim (cases_Bool (nat_le least k && nat_le k most)) [
      | inl within ↦
          let parts = and_parts (nat_le least k) (nat_le k most) within in
          let read : Some k ≡ Some n = rw within at h in
          let same : k ≡ n = same_Some k n read in
          subst (λ x. IsRead (Some (integer (pos k))) least most x) same
          (record { is = refl; low = leb-true least k parts.0; high = leb-true k most parts.1 })
      | inr past ↦ let no : None ≡ Some n = rw past at h in cc
    ]
ranged-read (negsuc k) least most n h = cc

number_or-read : (m : Member) (z : ℤ) (least most : ℕ) (o : Option ℕ) (n : ℕ) → number_or m z least most o ≡ Ok n → o ≡ Some n
number_or-read m z least most (Some k) n h = ap Some (unwrapped k n h)
number_or-read m z least most None n h = cc

number_among-read : (m : Member) (least most : ℕ) (o : Option Data) (n : ℕ) → number_among m least most o ≡ Ok n → IsRead o least most n
number_among-read m least most None n h = cc
number_among-read m least most (Some (integer z)) n h =
    ranged-read z least most n (number_or-read m z least most (ranged z least most) n h)
number_among-read m least most (Some (string s)) n h = cc
number_among-read m least most (Some (float x)) n h = cc
number_among-read m least most (Some (boolean b)) n h = cc
number_among-read m least most (Some (datetime d)) n h = cc
number_among-read m least most (Some (array ds)) n h = cc
number_among-read m least most (Some (table ms)) n h = cc

number_in-read : (ms : Members) (m : Member) (least most n : ℕ) → number_in ms m least most ≡ Ok n → IsRead (get_member (name_of m) ms) least most n
unfolding number_in
number_in-read ms m least most n h = number_among-read m least most (get_member (name_of m) ms) n h

decoded-read : (m : Member) (size : ℕ) (r : Result (List ℕ) FromHexError) (bytes : List ℕ) → decoded m size r ≡ Ok bytes → r ≡ Ok bytes
decoded-read m size (Ok found) bytes h = ap Ok (unwrapped found bytes h)
decoded-read m size (Err e) bytes h = cc

-- what digits that are read are
digits_among-read : (m : Member) (size : ℕ) (o : Option Data) (bytes : List ℕ) → digits_among m size o ≡ Ok bytes
    → (text : List ℕ) × (o ≡ Some (string text)) × (decode_sized text size ≡ Ok bytes)
digits_among-read m size None bytes h = cc
digits_among-read m size (Some (string s)) bytes h = (s, refl, decoded-read m size (decode_sized s size) bytes h)
digits_among-read m size (Some (integer z)) bytes h = cc
digits_among-read m size (Some (float x)) bytes h = cc
digits_among-read m size (Some (boolean b)) bytes h = cc
digits_among-read m size (Some (datetime d)) bytes h = cc
digits_among-read m size (Some (array ds)) bytes h = cc
digits_among-read m size (Some (table ms)) bytes h = cc

digits_in-read : (ms : Members) (m : Member) (size : ℕ) (bytes : List ℕ) → digits_in ms m size ≡ Ok bytes → HasDigits ms m size bytes
unfolding digits_in
digits_in-read ms m size bytes h =
    let (text, has, spells) = digits_among-read m size (get_member (name_of m) ms) bytes h in
    record { text = text; has = has; spells = spells }

-- sizes that are taken fit each other
pub fitting-read : (digest entries rows value width : ℕ) (u : Unit {0}) → fitting digest entries rows value width ≡ Ok u
    → (least_width digest value ≤ width) × (rows * width ≤ MOST_CELLS) × (entries ≤ room_of digest rows value width)
unfolding fitting
fitting-read digest entries rows value width u h =
    elim (cases_Bool (nat_lt width (least_width digest value))) [
      | inl narrow ↦ let no : Err _ ≡ Ok u = rw narrow at h in cc
      | inr wide ↦
          let h1 = rw wide at h in
          elim (cases_Bool (nat_lt MOST_CELLS (rows * width))) [
            | inl large ↦ let no : Err _ ≡ Ok u = rw large at h1 in cc
            | inr small ↦
                let h2 = rw small at h1 in
                elim (cases_Bool (nat_lt (room_of digest rows value width) entries)) [
                  | inl many ↦ let no : Err _ ≡ Ok u = rw many at h2 in cc
                  | inr few ↦ (
                    ltb-false width (least_width digest value) wide,
                    ltb-false MOST_CELLS (rows * width) small,
                    ltb-false (room_of digest rows value width) entries few,
                  )
                ]
          ]
    ]

-- texts that are read are those of a list of texts
more_texts-read : (s : List ℕ) (o : Option (List (List ℕ))) (xs : List (List ℕ)) → option_map (λ more. s ∷ more) o ≡ Some xs
    → (more : List (List ℕ)) × (o ≡ Some more) × (s ∷ more ≡ xs)
more_texts-read s None xs h = cc
more_texts-read s (Some more) xs h = (more, refl, same_Some (s ∷ more) xs h)

texts-read : (ds : Items) (xs : List (List ℕ)) → texts ds ≡ Some xs → ds ≡ items_of xs
texts-read no_items xs h = ap items_of (same_Some [] xs h)
texts-read (item (string s) ds) xs h =
    let (more, behind, whole) = more_texts-read s (texts ds) xs h in
    ap (item (string s)) (texts-read ds more behind) ∙ ap items_of whole
texts-read (item (integer z) ds) xs h = cc
texts-read (item (float x) ds) xs h = cc
texts-read (item (boolean b) ds) xs h = cc
texts-read (item (datetime d) ds) xs h = cc
texts-read (item (array es) ds) xs h = cc
texts-read (item (table ms) ds) xs h = cc

all_texts-read : (o : Option (List (List ℕ))) (xs : List (List ℕ)) → all_texts o ≡ Ok xs → o ≡ Some xs
all_texts-read None xs h = cc
all_texts-read (Some found) xs h = ap Some (unwrapped found xs h)

addresses_among-read : (o : Option Data) (xs : List (List ℕ)) → addresses_among o ≡ Ok xs → o ≡ Some (array (items_of xs))
addresses_among-read None xs h = cc
addresses_among-read (Some (array ds)) xs h = ap (λ es. Some (array es)) (texts-read ds xs (all_texts-read (texts ds) xs h))
addresses_among-read (Some (string s)) xs h = cc
addresses_among-read (Some (integer z)) xs h = cc
addresses_among-read (Some (float x)) xs h = cc
addresses_among-read (Some (boolean b)) xs h = cc
addresses_among-read (Some (datetime d)) xs h = cc
addresses_among-read (Some (table ms)) xs h = cc

addresses_in-read : (ms : Members) (xs : List (List ℕ)) → addresses_in ms ≡ Ok xs → get_member (name_of Addresses) ms ≡ Some (array (items_of xs))
unfolding addresses_in
addresses_in-read ms xs h = addresses_among-read (get_member (name_of Addresses) ms) xs h

-- servers that pass are those that were checked, and they can serve
record Passed (xs : List (List ℕ)) (degree agree : ℕ) (s : Serving) : Type 0 where
  is : record { addresses = xs; degree = degree; agree = agree } ≡ s
  can : CanServe xs degree agree

checked_degree-read : (xs : List (List ℕ)) (degree agree : ℕ) (s : Serving) → LEAST_SERVERS ≤ length xs → length xs ≤ MOST_SERVERS
    → All IsNamed xs → checked_degree xs degree agree ≡ Ok s → Passed xs degree agree s
checked_degree-read xs degree agree s some few named h =
    elim (cases_Bool (degree == 0)) [
      | inl zero_degree ↦ let no_value : Err _ ≡ Ok s = rw zero_degree at h in cc
      | inr hidden ↦
          let h1 = rw hidden at h in
          elim (cases_Bool (nat_le agree degree)) [
            | inl weak ↦ let no_value : Err _ ≡ Ok s = rw weak at h1 in cc
            | inr strong ↦
                let h2 = rw strong at h1 in
                elim (cases_Bool (nat_lt (length xs) agree)) [
                  | inl past ↦ let no_value : Err _ ≡ Ok s = rw past at h2 in cc
                  | inr within ↦
                      let h3 : ◌≡◌ {A = Result Serving ServersFault} (Ok (record { addresses = xs; degree = degree; agree = agree })) (Ok s) = rw within at h2 in
                      record {
                        is = unwrapped _ s h3;
                        can = record {
                          some = some;
                          few = few;
                          named = named;
                          hidden = grind (arith, nat_tests);
                          strong = leb-false agree degree strong;
                          within = ltb-false (length xs) agree within;
                        };
                      }
                ]
          ]
    ]

checked_named-read : (o : Option ℕ) (xs : List (List ℕ)) (degree agree : ℕ) (s : Serving) → checked_named o xs degree agree ≡ Ok s
    → (o ≡ None) × (checked_degree xs degree agree ≡ Ok s)
checked_named-read None xs degree agree s h = (refl, h)
checked_named-read (Some place) xs degree agree s h = cc

checked-read : (xs : List (List ℕ)) (degree agree : ℕ) (s : Serving) → checked xs degree agree ≡ Ok s → Passed xs degree agree s
unfolding checked
checked-read xs degree agree s h =
    elim (cases_Bool (nat_lt (length xs) LEAST_SERVERS || nat_lt MOST_SERVERS (length xs))) [
      | inl outside ↦ let no_value : Err _ ≡ Ok s = rw outside at h in cc
      | inr inside ↦
          let (none, rest) = checked_named-read (empty_place xs) xs degree agree s (rw inside at h) in
          let some : LEAST_SERVERS ≤ length xs = grind (arith, nat_tests) in
          let few : length xs ≤ MOST_SERVERS = grind (arith, nat_tests) in
          checked_degree-read xs degree agree s some few (all_named xs 0 none) rest
    ]

of_servers-read : (r : Result Serving ServersFault) (s : Serving) → of_servers r ≡ Ok s → r ≡ Ok s
of_servers-read (Ok found) s h = ap Ok (unwrapped found s h)
of_servers-read (Err e) s h = cc

-- servers that are read of a table, it says
servers_of-read : (ms : Members) (s : Serving) → servers_of ms ≡ Ok s → HasServing ms s
unfolding servers_of
servers_of-read ms s h =
    let (u, e0, h0) = bind_ok (no_stranger (stranger OF_SERVERS ms)) _ s h in
    let (xs, e1, h1) = bind_ok (addresses_in ms) _ s h0 in
    let (agree, e2, h2) = bind_ok (number_in ms Agree 1 MOST_SERVERS) _ s h1 in
    let (degree, e3, h3) = bind_ok (number_in ms Degree 1 MOST_DEGREE) _ s h2 in
    let passed = checked-read xs degree agree s (of_servers-read (checked xs degree agree) s h3) in
    let says : HasServing ms (record { addresses = xs; degree = degree; agree = agree }) = record {
      only = only-read OF_SERVERS ms u e0;
      addresses = addresses_in-read ms xs e1;
      agree = (number_in-read ms Agree 1 MOST_SERVERS agree e2).is;
      degree = (number_in-read ms Degree 1 MOST_DEGREE degree e3).is;
      can = passed.can;
    } in
    subst (HasServing ms) passed.is says

some_servers-read : (r : Result Serving MemberFault) (o : Option Serving) → some_servers r ≡ Ok o → (s : Serving) × (r ≡ Ok s) × (Some s ≡ o)
some_servers-read (Ok s) o h = (s, refl, unwrapped (Some s) o h)
some_servers-read (Err e) o h = cc

-- so it is of servers that may be missing
servers_among-read : (ms : Members) (d : Option Data) (o : Option Serving) → get_member (name_of Servers) ms ≡ d
    → servers_among d ≡ Ok o → HasServers ms o
servers_among-read ms None o has h = subst (HasServers ms) (unwrapped None o h) has
servers_among-read ms (Some (table inner)) o has h =
    let (s, read, is) = some_servers-read (servers_of inner) o h in
    subst (HasServers ms) is (inner, has, servers_of-read inner s read)
servers_among-read ms (Some (string s)) o has h = cc
servers_among-read ms (Some (integer z)) o has h = cc
servers_among-read ms (Some (float x)) o has h = cc
servers_among-read ms (Some (boolean b)) o has h = cc
servers_among-read ms (Some (datetime d)) o has h = cc
servers_among-read ms (Some (array ds)) o has h = cc

servers_in-read : (ms : Members) (o : Option Serving) → servers_in ms ≡ Ok o → HasServers ms o
unfolding servers_in
servers_in-read ms o h = servers_among-read ms (get_member (name_of Servers) ms) o refl h

-- there is one format
only_format : (n : ℕ) → FORMAT ≤ n → n ≤ FORMAT → n ≡ FORMAT
only_format n low high = omega arith

-- what is read of a document, it says
pub says-read : (ms : Members) (f : Facts) → catalog_in ms ≡ Ok f → SaysCatalog ms f
unfolding catalog_in
says-read ms f h =
    let (u, e0, h0) = bind_ok (no_stranger (stranger ROOT ms)) _ f h in
    let (digest, e1, h1) = bind_ok (number_in ms Digest LEAST_DIGEST MOST_DIGEST) _ f h0 in
    let (entries, e2, h2) = bind_ok (number_in ms Entries 1 MOST_PAIRS) _ f h1 in
    let (format, e3, h3) = bind_ok (number_in ms Format FORMAT FORMAT) _ f h2 in
    let (tag, e4, h4) = bind_ok (digits_in ms ListTag 8) _ f h3 in
    let (rows, e5, h5) = bind_ok (number_in ms Rows 1 MOST_ROWS) _ f h4 in
    let (salt, e6, h6) = bind_ok (digits_in ms Salt 16) _ f h5 in
    let (sha256, e7, h7) = bind_ok (digits_in ms Sha256 32) _ f h6 in
    let (value, e8, h8) = bind_ok (number_in ms Value 0 MOST_VALUE) _ f h7 in
    let (width, e9, h9) = bind_ok (number_in ms Width 1 MOST_WIDTH) _ f h8 in
    let (v, e10, h10) = bind_ok (fitting digest entries rows value width) _ f h9 in
    let (servers, e11, h11) = bind_ok (servers_in ms) _ f h10 in
    let is_digest = number_in-read ms Digest LEAST_DIGEST MOST_DIGEST digest e1 in
    let is_entries = number_in-read ms Entries 1 MOST_PAIRS entries e2 in
    let is_format = number_in-read ms Format FORMAT FORMAT format e3 in
    let is_rows = number_in-read ms Rows 1 MOST_ROWS rows e5 in
    let is_value = number_in-read ms Value 0 MOST_VALUE value e8 in
    let is_width = number_in-read ms Width 1 MOST_WIDTH width e9 in
    let fits = fitting-read digest entries rows value width v e10 in
    let one = only_format format is_format.low is_format.high in
    let read : Facts = record {
      digest = digest;
      entries = entries;
      tag = tag;
      rows = rows;
      salt = salt;
      sha256 = sha256;
      value = value;
      width = width;
      servers = servers;
    } in
    let says : SaysCatalog ms read = record {
      only = only-read ROOT ms u e0;
      digest = is_digest.is;
      entries = is_entries.is;
      format = is_format.is ∙ ap (λ n. Some (integer (pos n))) one;
      tag = digits_in-read ms ListTag 8 tag e4;
      rows = is_rows.is;
      salt = digits_in-read ms Salt 16 salt e6;
      sha256 = digits_in-read ms Sha256 32 sha256 e7;
      value = is_value.is;
      width = is_width.is;
      sizes = record {
        long_digest = is_digest.low;
        short_digest = is_digest.high;
        some_entries = is_entries.low;
        few_entries = is_entries.high;
        shape = record {
          some_rows = is_rows.low;
          few_rows = is_rows.high;
          some_bytes = is_width.low;
          few_bytes = is_width.high;
          few_cells = fits.1;
        };
        short_value = is_value.high;
        wide = fits.0;
        roomy = fits.2;
      };
      servers = servers_in-read ms servers e11;
    } in
    subst (SaysCatalog ms) (unwrapped read f h11) says
