-- What is written of a catalog is read as the catalog.
use Rattle.std.proofs.Common.{◌≡◌, ◌⊎◌, inl, inr, ℕ, ◌+◌, ◌*◌, ◌/◌, ◌%◌, ◌≤◌, ◌==◌, List, [], ◌∷◌, length, Bool, true, false, Option, Some, None, Result, Ok, Err, refl, sym, ap, ◌∙◌, arith}
use Rattle.std.specs.Prelude.{All, IsUtf8}
use Rattle.std.specs.List.{list_all}
use Rattle.std.proofs.lemmas.Bool.{and_parts}
use Rattle.std.proofs.lemmas.Bool.Decides.{nat_tests}
use Rattle.std.proofs.lemmas.List.Elements.{All-cons, All-nil}
use Rattle.std.proofs.lemmas.Option.{none-some, same_Some}
use Rattle.hex.specs.Hex.{IsBytes, decode_pairs, decode_sized, encode_lower, lower_digits}
use Rattle.hex.proofs.HexLemmas.{IsDigits-lower_digits, decode_pairs-encode_with, length-encode_with}
use Rattle.toml.specs.Data.{Members, get_member, string, table}
use Rattle.toml.specs.Parse.{parse_document}
use Rattle.list_catalog.specs.declared.TheConstants.{MOST_CATALOG}
use Rattle.list_catalog.specs.declared.member.Member.{Member}
use Rattle.list_catalog.specs.declared.member.Member.TheVariants.{List as ListTag, Salt, Sha256}
use Rattle.list_catalog.specs.declared.member.TheConstants.{ROOT, OF_SERVERS}
use Rattle.list_catalog.specs.declared.fault.MemberFault.{MemberFault}
use Rattle.list_catalog.specs.declared.fault.CatalogFault.{CatalogFault}
use Rattle.list_catalog.specs.declared.fault.CatalogFault.TheVariants.{TooLong, NotText, NotToml, Unfit, Memory}
use Rattle.list_catalog.specs.Member.{name_of}
use Rattle.list_catalog.specs.Serving.{CanServe, Serving}
use Rattle.list_catalog.specs.Facts.{AreBytes, Facts, IsCatalog}
use Rattle.list_catalog.specs.Documents.{catalog_in, is_known, names}
use Rattle.list_catalog.specs.Reading.{Reads, ReadsBack}
use Rattle.list_catalog.specs.Said.{HasDigits, HasOnly, HasServing, SaysCatalog}
use Rattle.list_catalog.specs.Writing.{document_of, servers_document}
use Rattle.list_catalog.proofs.Saying.{catalog_in-says, unwrapped}

-- bytes, as digits, are spelled by the digits
sized : (bytes : List ℕ) (size : ℕ) → AreBytes size bytes → decode_sized (encode_lower bytes) size ≡ Ok bytes
sized bytes size are =
    let long : length bytes ≡ size = are.0 in
    let len = length-encode_with lower_digits bytes in
    let pairs : decode_pairs 0 (encode_lower bytes) ≡ Ok bytes = decode_pairs-encode_with lower_digits IsDigits-lower_digits 0 bytes are.1 in
    let even : (length (encode_lower bytes) % 2 == 1) ≡ false = grind (arith, nat_tests) in
    let same : (length (encode_lower bytes) / 2 == size) ≡ true = grind (arith, nat_tests) in
    rw (even, same) pairs

has_digits : (ms : Members) (m : Member) (size : ℕ) (bytes : List ℕ) → get_member (name_of m) ms ≡ Some (string (encode_lower bytes))
    → AreBytes size bytes → HasDigits ms m size bytes
has_digits ms m size bytes has are = record { text = encode_lower bytes; has = has; spells = sized bytes size are }

-- names that are all known are each
abbrev IsKnown : List Member → List ℕ → Type 0
IsKnown known name = is_known known name ≡ true

only : (known : List Member) (ns : List (List ℕ)) → list_all (is_known known) ns ≡ true → All (IsKnown known) ns
only known [] h = All-nil (IsKnown known)
only known (n ∷ ns) h =
    let parts = and_parts (is_known known n) (list_all (is_known known) ns) h in
    All-cons (IsKnown known) n ns parts.0 (only known ns parts.1)

-- the table of servers says them
serving-document : (s : Serving) → CanServe s.addresses s.degree s.agree → HasServing (servers_document s) s
unfolding servers_document
serving-document s can = record {
  only = only OF_SERVERS (names (servers_document s)) refl;
  addresses = refl;
  agree = refl;
  degree = refl;
  can = can;
}

-- the document of a catalog without servers says the catalog, and so does that of one with servers
says-none : (f : Facts) → IsCatalog (record f { servers = None })
    → SaysCatalog (document_of (record f { servers = None })) (record f { servers = None })
unfolding document_of
says-none f are =
    let ms = document_of (record f { servers = None }) in
    record {
      only = only ROOT (names ms) refl;
      digest = refl;
      entries = refl;
      format = refl;
      tag = has_digits ms ListTag 8 f.tag refl are.tag;
      rows = refl;
      salt = has_digits ms Salt 16 f.salt refl are.salt;
      sha256 = has_digits ms Sha256 32 f.sha256 refl are.sha256;
      value = refl;
      width = refl;
      sizes = are.sizes;
      servers = refl;
    }

says-some : (f : Facts) (s : Serving) → IsCatalog (record f { servers = Some s })
    → SaysCatalog (document_of (record f { servers = Some s })) (record f { servers = Some s })
unfolding document_of
says-some f s are =
    let ms = document_of (record f { servers = Some s }) in
    record {
      only = only ROOT (names ms) refl;
      digest = refl;
      entries = refl;
      format = refl;
      tag = has_digits ms ListTag 8 f.tag refl are.tag;
      rows = refl;
      salt = has_digits ms Salt 16 f.salt refl are.salt;
      sha256 = has_digits ms Sha256 32 f.sha256 refl are.sha256;
      value = refl;
      width = refl;
      sizes = are.sizes;
      servers = (servers_document s, refl, serving-document s are.servers);
    }

says-by : (f : Facts) (o : Option Serving) → IsCatalog (record f { servers = o })
    → SaysCatalog (document_of (record f { servers = o })) (record f { servers = o })
says-by f None are = says-none f are
says-by f (Some s) are = says-some f s are

-- so the document of a catalog is read as the catalog
pub catalog_in-document_of : (f : Facts) → IsCatalog f → catalog_in (document_of f) ≡ Ok f
catalog_in-document_of f are = catalog_in-says (document_of f) f (says-by f f.servers are)

-- whatever a reading of the text of that document comes to, it is the catalog, or memory ran out
pub ReadsBack-document_of : (text : List ℕ) (f : Facts) → IsCatalog f → length text ≤ MOST_CATALOG → IsUtf8 text
    → parse_document text ≡ Some (document_of f) → ReadsBack text f
ReadsBack-document_of text f are short utf8 parsed (Ok facts) (ms, doc, said) =
    let same : ms ≡ document_of f = same_Some ms (document_of f) (sym doc.parsed ∙ parsed) in
    inl (ap Ok (unwrapped facts f (sym said ∙ ap catalog_in same ∙ catalog_in-document_of f are)))
ReadsBack-document_of text f are short utf8 parsed (Err TooLong) long = absurd (omega arith)
ReadsBack-document_of text f are short utf8 parsed (Err NotText) fault = absurd (fault.1 utf8)
ReadsBack-document_of text f are short utf8 parsed (Err (NotToml line why)) fault = absurd (none-some (document_of f) (sym fault.refused ∙ parsed))
ReadsBack-document_of text f are short utf8 parsed (Err (Unfit why)) (ms, doc, said) =
    let same : ms ≡ document_of f = same_Some ms (document_of f) (sym doc.parsed ∙ parsed) in
    let both : ◌≡◌ {A = Result Facts MemberFault} (Err why) (Ok f) = sym said ∙ ap catalog_in same ∙ catalog_in-document_of f are in
    cc
ReadsBack-document_of text f are short utf8 parsed (Err Memory) fault = inr refl
