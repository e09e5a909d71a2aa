-- What the accessors of a value tell of it.
use Rattle.std.proofs.Common.{◌≡◌, ℕ, ℤ, ◌*◌, List, Option, Some, None, Result, Ok, Err, refl, ap}
use Rattle.toml.specs.Data.{Data, string, integer, float, boolean, datetime, array, table, Items, Members, as_str, as_integer, as_array, as_table}
use Rattle.list_catalog.specs.declared.member.Member.{Member}
use Rattle.list_catalog.specs.declared.fault.MemberFault.{MemberFault}
use Rattle.list_catalog.specs.declared.fault.MemberFault.TheVariants.{NotNumber, NotDigits, NotTable, NotTexts}
use Rattle.list_catalog.specs.Documents.{addresses_among, digits_among, number_among, servers_among}

-- a value that has a number, a text, items or members is these
pub is_integer : (d : Data) (z : ℤ) → Some z ≡ as_integer d → d ≡ integer z
is_integer (integer y) z h = let same : y ≡ z = cc in ap integer same
is_integer (string s) z h = cc
is_integer (float x) z h = cc
is_integer (boolean b) z h = cc
is_integer (datetime t) z h = cc
is_integer (array ds) z h = cc
is_integer (table ms) z h = cc

pub is_string : (d : Data) (s : List ℕ) → Some s ≡ as_str d → d ≡ string s
is_string (string t) s h = let same : t ≡ s = cc in ap string same
is_string (integer z) s h = cc
is_string (float x) s h = cc
is_string (boolean b) s h = cc
is_string (datetime t) s h = cc
is_string (array ds) s h = cc
is_string (table ms) s h = cc

pub is_array : (d : Data) (ds : Items) → Some ds ≡ as_array d → d ≡ array ds
is_array (array es) ds h = let same : es ≡ ds = cc in ap array same
is_array (integer z) ds h = cc
is_array (string s) ds h = cc
is_array (float x) ds h = cc
is_array (boolean b) ds h = cc
is_array (datetime t) ds h = cc
is_array (table ms) ds h = cc

pub is_table : (d : Data) (ms : Members) → Some ms ≡ as_table d → d ≡ table ms
is_table (table ns) ms h = let same : ns ≡ ms = cc in ap table same
is_table (integer z) ms h = cc
is_table (string s) ms h = cc
is_table (float x) ms h = cc
is_table (boolean b) ms h = cc
is_table (datetime t) ms h = cc
is_table (array ds) ms h = cc

-- a value that has none is refused
pub no_number : (m : Member) (least most : ℕ) (d : Data) → None ≡ as_integer d → number_among m least most (Some d) ≡ Err (NotNumber m)
no_number m least most (integer z) h = cc
no_number m least most (string s) h = refl
no_number m least most (float x) h = refl
no_number m least most (boolean b) h = refl
no_number m least most (datetime t) h = refl
no_number m least most (array ds) h = refl
no_number m least most (table ms) h = refl

pub no_digits : (m : Member) (size : ℕ) (d : Data) → None ≡ as_str d → digits_among m size (Some d) ≡ Err (NotDigits m (2 * size))
no_digits m size (string s) h = cc
no_digits m size (integer z) h = refl
no_digits m size (float x) h = refl
no_digits m size (boolean b) h = refl
no_digits m size (datetime t) h = refl
no_digits m size (array ds) h = refl
no_digits m size (table ms) h = refl

pub no_texts : (d : Data) → None ≡ as_array d → addresses_among (Some d) ≡ Err NotTexts
no_texts (array ds) h = cc
no_texts (integer z) h = refl
no_texts (string s) h = refl
no_texts (float x) h = refl
no_texts (boolean b) h = refl
no_texts (datetime t) h = refl
no_texts (table ms) h = refl

pub no_table : (d : Data) → None ≡ as_table d → servers_among (Some d) ≡ Err NotTable
no_table (table ms) h = cc
no_table (integer z) h = refl
no_table (string s) h = refl
no_table (float x) h = refl
no_table (boolean b) h = refl
no_table (datetime t) h = refl
no_table (array ds) h = refl
