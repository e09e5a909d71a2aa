-- The text of a verdict, and of a report.
use Rattle.std.specs.Prelude.{ℕ, ◌+◌, ◌*◌, ◌==◌, nat_lt, not, if◌then◌else◌, List, [], ◌∷◌, ◌++◌, length, flat_map, codes, decimal}
use Rattle.std.specs.List.{filter, list_any}
use Rattle.hex.specs.Hex.{encode_lower}
use Rattle.wire_frames.specs.Answer.{Answer, answers}
use Rattle.wire_frames.specs.Session.{Transcript}
use Rattle.block_decoder.specs.Report.{Agreement, indices_of}
use Rattle.block_decoder.specs.declared.verdict.Verdict.{Verdict}
use Rattle.block_decoder.specs.declared.verdict.Verdict.TheVariants.{Listed, TooFew, TooWeak, TooCostly}

-- a block in lower-case hexadecimal, and a newline
unfoldable pub block_line : List ℕ → List ℕ
block_line block = encode_lower block ++ codes "\n"

-- a number in decimal, after a space
unfoldable pub number_word : ℕ → List ℕ
number_word n = codes " " ++ decimal n

-- numbers, each in decimal after a space
abbrev pub number_words : List ℕ → List ℕ
number_words numbers = flat_map number_word numbers

-- a line: words, and numbers
unfoldable pub line_of : List ℕ → List ℕ → List ℕ
line_of words numbers = words ++ (flat_map number_word numbers ++ codes "\n")

-- the lines of a verdict
abbrev pub text : Verdict → List ℕ
text (Listed blocks) = line_of (codes "blocks") (length blocks ∷ []) ++ flat_map block_line blocks
text (TooFew k h) = line_of (codes "too few") (k ∷ h ∷ [])
text (TooWeak k t h) = line_of (codes "too weak") (k ∷ t ∷ h ∷ [])
text (TooCostly equations) = line_of (codes "too costly") (equations ∷ [])

-- `agree`, a block in lower-case hexadecimal, the indices of the answers that agree on it, and a newline
unfoldable pub agree_line : Agreement → List ℕ
agree_line a = codes "agree " ++ (encode_lower a.block ++ line_of [] a.indices)

-- the lines of agreements
abbrev pub agree_lines : List Agreement → List ℕ
agree_lines agreements = flat_map agree_line agreements

-- the indices of the answers that aren't among these
unfoldable pub others : List ℕ → List Answer → List ℕ
others indices answers = filter (λ i. not (list_any (λ j. j == i) indices)) (indices_of answers)

-- their numbers in decimal, each after a space
unfoldable pub words_of : List ℕ → List Answer → List ℕ
words_of indices answers = flat_map number_word (others indices answers)

-- `liars` and the answers that don't agree, where there is one agreement, and of so many answers that there can be no other,
-- 2 h > k + t; else nothing
abbrev pub liars_line : List Answer → ℕ → ℕ → List Agreement → List ℕ
liars_line answers t h [] = []
liars_line answers t h (one ∷ []) =
    if nat_lt (length answers + t) (2 * h) then codes "liars" ++ (words_of one.indices answers ++ codes "\n") else []
liars_line answers t h (one ∷ another ∷ more) = []

-- the lines of the report on a session
unfoldable pub report_text : Transcript → List Agreement → List ℕ
report_text session agreements = flat_map agree_line agreements
    ++ liars_line (answers session) session.params.t session.params.h agreements
