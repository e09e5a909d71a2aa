-- What is shown of a session: its numbers, and a line for each server. No byte that a server sent stands in it, nor the
-- number of the session.
use Rattle.std.specs.Prelude.{ℕ, zero, suc, ◌+◌, ◌-◌, List, [], ◌++◌, length, codes, decimal, Option, Some, None, option_map, slice_index_or, ◌==◌, if◌then◌else◌}
use Rattle.wire_frames.specs.declared.cause.AnswerField.{AnswerField}
use Rattle.wire_frames.specs.declared.cause.AnswerField.TheVariants.{Magic, Version, Scheme as SchemeField, Index, Session, Rows, Width}
use Rattle.wire_frames.specs.declared.cause.Cause.{Cause}
use Rattle.wire_frames.specs.declared.cause.Cause.TheVariants.{Usable, Cut, Other, Refused, Length}
use Rattle.wire_frames.specs.declared.scheme.Scheme.{Scheme}
use Rattle.wire_frames.specs.declared.scheme.Scheme.TheVariants.{Shamir, Xor}
use Rattle.wire_frames.specs.declared.session.SessionParams.{SessionParams}
use Rattle.wire_frames.specs.Answer.{asked}
use Rattle.wire_frames.specs.Cause.{cause}
use Rattle.wire_frames.specs.Scheme.{scheme_of}
use Rattle.wire_frames.specs.Session.{Transcript}

-- a scheme, as words of the command line name it
abbrev pub scheme_word : Scheme → List ℕ
scheme_word Shamir = codes "shamir"
scheme_word Xor = codes "xor"

-- the line of a number: its name, and its value
unfoldable pub number_line : List ℕ → ℕ → List ℕ
number_line name number = name ++ (codes " " ++ (decimal number ++ codes "\n"))

-- the numbers of a session but its own, a line each
unfoldable pub number_lines : SessionParams → List ℕ
number_lines p =
    ((((((codes "scheme " ++ (scheme_word (scheme_of p.scheme) ++ codes "\n"))
    ++ number_line (codes "degree") p.t)
    ++ number_line (codes "agreement") p.h)
    ++ number_line (codes "servers") p.n)
    ++ number_line (codes "rows") p.r)
    ++ number_line (codes "width") p.s)
    ++ number_line (codes "blocks") p.count

-- what is said of an answer with this field another than it was asked
abbrev pub field_words : AnswerField → List ℕ
field_words Magic = codes "unusable, it doesn't begin with PIRA"
field_words Version = codes "unusable, its version is another"
field_words SchemeField = codes "unusable, its scheme is another"
field_words Index = codes "unusable, its index is another"
field_words Session = codes "unusable, its session number is another"
field_words Rows = codes "unusable, its number of rows is another"
field_words Width = codes "unusable, its width is another"

-- what is said of a refusal with this status
unfoldable pub refusal_words : ℕ → List ℕ
refusal_words status =
    if status == 1 then codes "refused, status 1: bad query"
    else (if status == 2 then codes "refused, status 2: other rows or width"
    else (if status == 3 then codes "refused, status 3: other scheme"
    else (if status == 4 then codes "refused, status 4: a shard is lost"
    else codes "refused, with an unknown status")))

-- what is said of an answer
abbrev pub cause_words : Cause → List ℕ
cause_words Usable = codes "usable"
cause_words Cut = codes "unusable, it has fewer bytes than a header"
cause_words (Other field) = field_words field
cause_words (Refused status) = refusal_words status
cause_words Length = codes "unusable, its payload has another length"

-- what is said of a server, by its answer; it is silent where a call failed
abbrev pub server_words : Option Cause → List ℕ
server_words None = codes "silent"
server_words (Some why) = cause_words why

-- the line of a server, by its index
unfoldable pub server_line : ℕ → Option Cause → List ℕ
server_line index told = codes "server " ++ (decimal index ++ (codes ": " ++ (server_words told ++ codes "\n")))

-- whether the answer of server i is usable, and if not, why; none where a call failed
unfoldable pub told_of : Transcript → ℕ → Option Cause
told_of t i = option_map (λ bytes. cause bytes (asked t.params i)) (slice_index_or t.records (i - 1) None)

-- the lines of the first n servers
unfoldable pub server_lines : Transcript → ℕ → List ℕ
server_lines t zero = []
server_lines t (suc n) = server_lines t n ++ server_line (n + 1) (told_of t (n + 1))

-- the whole text
unfoldable pub session_text : Transcript → List ℕ
session_text t = number_lines t.params ++ server_lines t (length t.records)
