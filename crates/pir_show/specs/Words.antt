-- Which words have a form.
use Rattle.std.specs.Prelude.{ℕ, Bool, List, [], ◌∷◌, length, Option, Some, None, not, nat_le, slice_index, ◌==◌, ◌||◌, if◌then◌else◌}

-- a word names a file, or is `-` (45) alone: none begins with `-` and goes on
unfoldable pub is_name : List ℕ → Bool
is_name word = nat_le (length word) 1 || not (slice_index word 0 == 45)

-- the file that the words name: there is one word
abbrev pub file_of : List (List ℕ) → Option (List ℕ)
file_of [] = None
file_of (word ∷ []) = if is_name word then Some word else None
file_of (word ∷ (other ∷ more)) = None
