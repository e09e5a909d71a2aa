-- The lines of a text.
use Rattle.std.specs.Prelude.{ℕ, ◌-◌, Bool, ◌==◌, if◌then◌else◌, List, [], ◌∷◌, length, slice_index}
use Rattle.std.specs.List.{onto_first}
use Rattle.key_table.specs.Entry.{newline}

-- whether a byte ends a line
abbrev pub is_newline : ℕ → Bool
is_newline b = b == newline

-- the lines of a text: each ends at a newline, which the last may lack
unfoldable pub lines : List ℕ → List (List ℕ)
lines [] = []
lines (b ∷ text) = if is_newline b then [] ∷ lines text else onto_first b (lines text)

-- whether the last byte of a line is a carriage return
abbrev pub ends_with_return : List ℕ → Bool
ends_with_return line = slice_index line (length line - 1) == 13
