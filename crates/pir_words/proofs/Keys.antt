-- The key that a text spells.
use Rattle.std.proofs.Common.{◌≡◌, ◌∙◌, ℕ, ◌/◌, ◌<◌, ◌≤◌, List, length, Some, None, true, false, ap, arith}
use Rattle.std.specs.Prelude.{Err, Ok, nat_le}
use Rattle.std.specs.Result.{result_ok}
use Rattle.std.proofs.lemmas.Bool.{cond-false, cond-true, false_from_ne_true, le-leb, leb-true}
use Rattle.clap.specs.Words.{Text}
use Rattle.hex.specs.Hex.{decode_of}
use Rattle.hex.proofs.HexLemmas.{decode_of-ok}
use Rattle.key_search.specs.Spelled.{IsReadAs as IsKeyReadAs, spells_bytes}
use Rattle.key_search.specs.declared.key.KeyFault.{KeyFault}
use Rattle.key_search.specs.declared.key.KeyFault.TheVariants.{NotHex, TooLong, Memory}
use Rattle.pir_words.specs.Form.{IsReadAs, fault_of_key}
use Rattle.pir_words.specs.LookUpForm.{key_named}

-- a text that spells a key, which isn't too long
pub key_spelled : (width : ℕ) (text : Text) (key : List ℕ) → spells_bytes text ≡ true → length key ≤ width → decode_of text ≡ Ok key
    → key_named width text ≡ Some key
unfolding key_named
key_spelled width text key spells short decoded =
    let half = (decode_of-ok text key decoded).2 in
    cond-true (spells_bytes text) _ _ spells
    ∙ cond-true (nat_le (length text / 2) width) _ _ (le-leb (length text / 2) width (omega (arith, half, short)))
    ∙ ap result_ok decoded

-- a text that spells none
key_unspelled : (width : ℕ) (text : Text) → spells_bytes text ≡ false → key_named width text ≡ None
unfolding key_named
key_unspelled width text spells = cond-false (spells_bytes text) _ _ spells

-- a text that spells one that is too long
key_too_long : (width : ℕ) (text : Text) → spells_bytes text ≡ true → width < length text / 2 → key_named width text ≡ None
unfolding key_named
key_too_long width text spells long =
    cond-true (spells_bytes text) _ _ spells
    ∙ cond-false (nat_le (length text / 2) width) _ _ (false_from_ne_true _ (λ h. let le = leb-true (length text / 2) width h in omega (arith, le, long)))

-- a text that isn't read as a key
pub key_unread : (width : ℕ) (text : Text) (fault : KeyFault) → IsKeyReadAs text width (Err fault)
    → IsReadAs (key_named width text) (Err (fault_of_key fault))
key_unread width text NotHex is = key_unspelled width text is
key_unread width text (TooLong max) is = key_too_long width text is.0 is.1
key_unread width text Memory is = tt
