-- Giving the first bytes that are unread as a line.
use Rattle.std.specs.Prelude.{◌≡◌, ◌&&◌, ℕ, ◌+◌, Bool, true, false, take, drop, Result, Ok, Err, None, Some}
use Rattle.list_keys.specs.Lines.{ends_with_return}
use Rattle.list_keys.specs.Form.{AreTerms, refusal_of}
use Rattle.list_keys.specs.Window.{Window}
use Rattle.list_keys.specs.Reading.{Reading}
use Rattle.list_keys.specs.declared.fault.LinesFault.{LinesFault}
use Rattle.list_keys.specs.declared.fault.LinesFault.TheVariants.{Memory, NoLine, ReadFault, Refused}

-- the window behind the line that its first bytes are, so many
abbrev pub behind : ℕ → Window → Window
behind at window = record { line = take at window.rest; rest = drop (at + 1) window.rest; ended = window.ended }

-- the reader with that line given
abbrev pub with_line : ℕ → Reading → Reading
with_line at reader = record {
  terms = reader.terms;
  number = reader.number + 1;
  returns = reader.returns && ends_with_return (take at reader.window.rest);
  window = behind at reader.window;
}

-- so many bytes are given as a line, or refused; terms are terms in any case
abbrev pub GivesLine : ℕ → Reading → Result Bool LinesFault → Reading → Type 0
GivesLine at old (Ok true) new =
    AreTerms old.terms × (refusal_of old.terms (old.number + 1) (take at old.window.rest) ≡ None) × (new ≡ with_line at old)
GivesLine at old (Ok false) new = ⊥
GivesLine at old (Err ReadFault) new = ⊥
GivesLine at old (Err NoLine) new = ⊥
GivesLine at old (Err Memory) new = ⊥
GivesLine at old (Err (Refused number fault)) new =
    AreTerms old.terms × (number ≡ old.number + 1) × (refusal_of old.terms number (take at old.window.rest) ≡ Some fault) × (new ≡ old)
