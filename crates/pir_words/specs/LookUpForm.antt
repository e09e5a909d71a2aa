-- The form of `lookup`.
use Rattle.std.specs.Prelude.{ℕ, ◌/◌, ◌≤◌, List, length, Option, Some, codes, nat_le, true, false}
use Rattle.std.specs.Result.{result_ok}
use Rattle.clap.specs.Words.{App, Row, Text, first_of, new_app, with_rule}
use Rattle.hex.specs.Hex.{decode_of}
use Rattle.key_search.specs.Spelled.{spells_bytes}
use Rattle.wire_frames.specs.declared.scheme.TheConstants.{SHAMIR}
use Rattle.pir_words.specs.Chain.{◌>>=◌, ◌>>◌}
use Rattle.pir_words.specs.Command.{operands_rule, with_option}
use Rattle.pir_words.specs.Ranges.{FitsSession, coins_in, sharing_in, sharing_of, sizes_in, sizes_of}
use Rattle.pir_words.specs.FetchForm.{addresses_in}
use Rattle.pir_words.specs.declared.ranges.Sizes.{Sizes}
use Rattle.pir_words.specs.declared.ranges.Sharing.{Sharing}
use Rattle.pir_words.specs.declared.asked.Asked.{Asked}
use Rattle.pir_words.specs.declared.asked.Asked.TheVariants.{Lookup}

-- `lookup --rows R --width S --key HEX --degree T --agree H ADDRESS..`
abbrev pub lookup_app : App
lookup_app =
    let rows = with_option (new_app (codes "lookup")) (codes "rows") true in
    let width = with_option rows (codes "width") true in
    let key = with_option width (codes "key") true in
    let degree = with_option key (codes "degree") true in
    let agree = with_option degree (codes "agree") true in
    let coins = with_option agree (codes "coins") false in
    with_rule coins (operands_rule (codes "addresses"))

-- the key that a text spells, in an even number of hexadecimal digits, no longer than a row of so many bytes
unfoldable pub key_named : ℕ → Text → Option (List ℕ)
key_named width text = do
  spells_bytes text
  nat_le (length text / 2) width
  result_ok (decode_of text)

-- the key
unfoldable pub key_in : ℕ → List Row → Option (List ℕ)
key_in width m = do
  text ← first_of (codes "key") m
  key_named width text

-- `lookup` with its values, each in its range
unfoldable pub lookup_of : List Row → Option Asked
lookup_of m = do
  (sizes : Sizes) ← sizes_in m
  key ← key_in sizes.width m
  addresses ← addresses_in m
  (sharing : Sharing) ← sharing_in (length addresses) m
  Some (Lookup sizes.rows sizes.width key sharing.degree sharing.agree (coins_in m) addresses)

-- the values of `lookup` with n addresses are those of a session in Shamir's scheme, and the key has a byte or more, and
-- no more than a row
pub record FitsLookUp (sizes : Sizes) (key : List ℕ) (sharing : Sharing) (n : ℕ) : Type 0 where
  pub numbers : FitsSession SHAMIR sharing n sizes
  pub some_key : 1 ≤ length key
  pub short_key : length key ≤ sizes.width

-- where a look-up is asked for, its values are in their ranges
abbrev pub LookUpInRange : Asked → Type 0
LookUpInRange (Lookup r s key t h coins addresses) = FitsLookUp (sizes_of r s) key (sharing_of t h) (length addresses)
LookUpInRange asked = Unit {0}
