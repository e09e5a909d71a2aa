-- The bytes of Input that were taken, and are not yet given as lines.
use Rattle.std.specs.Prelude.{◌≡◌, ◌⊎◌, ℕ, ◌-◌, ◌<◌, Bool, true, List, [], ◌++◌, length, take, drop, IfSome, Result, Ok, Err}
use Rattle.std.specs.List.{position_or_len}
use Rattle.port_trait.specs.World.{World}
use Rattle.port_trait.specs.Number.{INPUT}
use Rattle.port_trait.specs.Moves.{Fails, Hands}
use Rattle.port_trait.specs.Whole.{FailsAfter, Reads}
use Rattle.port_trait.specs.declared.port.Failed.{Failed}
use Rattle.list_keys.specs.Lines.{is_newline, lines}
use Rattle.list_keys.specs.declared.TheConstants.{LONGEST_LINE}

-- the line that was given last, the bytes behind it, and whether no more come
pub record Window : Type 0 where
  pub line : List ℕ
  pub rest : List ℕ
  pub ended : Bool

-- the bytes from one place up to another
abbrev pub part : List ℕ → ℕ → ℕ → List ℕ
part bytes from to = take (to - from) (drop from bytes)

-- Input was read as far, and these lines of it are given: whatever follows, all lines are these, and then those of what
-- is unread and of what follows. Where no more come, what was read is all that Input held
pub record HasGiven (window : Window) (given : List (List ℕ)) (start now : World) : Type 0 where
  pub read : List ℕ
  pub reads : Reads INPUT read start now
  pub are : (more : List ℕ) → (window.ended ≡ true → more ≡ []) → lines (read ++ more) ≡ given ++ lines (window.rest ++ more)
  pub all : window.ended ≡ true → IfSome (start.at INPUT).holds (λ held. read ≡ held)

-- the same holds now, or a call on Input failed
abbrev pub StillGiven : {T : Type 0} → Result T Failed → Window → List (List ℕ) → World → World → Type 0
StillGiven (Ok x) window given start now = HasGiven window given start now
StillGiven (Err failed) window given start now = FailsAfter INPUT start now

-- more of Input was taken, or a call failed, whatever was given before
abbrev pub TakesMore : {T : Type 0} → Window → Result T Failed → Window → World → World → Type 0
TakesMore before result after old new =
    (given : List (List ℕ)) (start : World) → HasGiven before given start old → StillGiven result after given start new

-- there is one byte more, or no more come
abbrev pub Grows : Window → Window → Type 0
Grows before after = (length before.rest < length after.rest) ⊎ (after.ended ≡ true)

-- where the first line of what is unread ends: at a newline, or where no more come, or the line is too long in any case
pub record EndsAt (window : Window) (at : ℕ) : Type 0 where
  pub is : at ≡ position_or_len is_newline window.rest
  pub settled : (at < length window.rest) ⊎ ((window.ended ≡ true) ⊎ (LONGEST_LINE < at))

-- bytes came in behind the first so many, or a call failed
abbrev pub TakesPiece : ℕ → Result ℕ Failed → List ℕ → List ℕ → World → World → Type 0
TakesPiece end (Ok n) before after old new = Hands INPUT n (drop end before) (drop end after) old new
    × (n ≡ 0 → IfSome (old.at INPUT).holds (λ held. held ≡ []))
TakesPiece end (Err failed) before after old new = Fails INPUT old new
