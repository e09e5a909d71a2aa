-- Which key a text spells.
use Rattle.std.specs.Prelude.{◌≡◌, ℕ, ◌/◌, ◌%◌, ◌<◌, ◌≤◌, ◌==◌, ◌&&◌, nat_lt, Bool, true, false, List, length, Result, Ok, Err}
use Rattle.std.specs.Char.{is_ascii_hexdigit}
use Rattle.std.specs.List.{list_all}
use Rattle.hex.specs.Hex.{decode_of}
use Rattle.key_search.specs.declared.key.KeyFault.{KeyFault}
use Rattle.key_search.specs.declared.key.KeyFault.TheVariants.{NotHex, TooLong, Memory}

-- whether a text is an even number of hexadecimal digits, of either case, and not empty
abbrev pub spells_bytes : List ℕ → Bool
spells_bytes text = nat_lt 0 (length text) && length text % 2 == 0 && list_all is_ascii_hexdigit text

-- a reading gives the bytes that the text spells, or the fault that it has: not digits, then too long for rows of
-- that width, then want of memory, which is no fault of the text
abbrev pub IsReadAs : List ℕ → ℕ → Result (List ℕ) KeyFault → Type 0
IsReadAs text width (Ok key) = (spells_bytes text ≡ true) × (length key ≤ width) × (decode_of text ≡ Ok key)
IsReadAs text width (Err NotHex) = spells_bytes text ≡ false
IsReadAs text width (Err (TooLong max)) = (spells_bytes text ≡ true) × (width < length text / 2) × (max ≡ width)
IsReadAs text width (Err Memory) = (spells_bytes text ≡ true) × (length text / 2 ≤ width)
