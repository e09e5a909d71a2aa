-- The text of what a look-up came to.
use Rattle.std.specs.Prelude.{ℕ, ◌++◌, List, Option, Some, None, codes}
use Rattle.block_decoder.specs.Text.{block_line, text}
use Rattle.block_decoder.specs.declared.verdict.Verdict.{Verdict}
use Rattle.key_fetches.specs.Listed.{Ended}

-- the row that was found, on a line
unfoldable pub found_line : List ℕ → List ℕ
found_line row = codes "found " ++ block_line row

-- that no row begins with the key
abbrev pub absent_line : List ℕ
absent_line = codes "absent\n"

-- the text of a row that was found, or of none
abbrev pub row_text : Option (List ℕ) → List ℕ
row_text (Some row) = found_line row
row_text None = absent_line

-- the text of the verdict that didn't list exactly one block; else of the row
abbrev pub text_by : Option Verdict → Option (List ℕ) → List ℕ
text_by (Some verdict) found = text verdict
text_by None found = row_text found

-- the text of what a look-up came to
abbrev pub end_text : Ended → List ℕ
end_text ended = text_by ended.unlisted ended.found
