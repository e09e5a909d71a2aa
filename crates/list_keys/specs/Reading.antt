-- Reading the lines of Input, one after another.
use Rattle.std.specs.Prelude.{◌≡◌, ℕ, ◌<◌, ◌≤◌, Bool, true, false, List, [], ◌∷◌, ◌++◌, length, All, IfSome, Result, Ok, Err}
use Rattle.std.specs.List.{list_all}
use Rattle.port_trait.specs.World.{World}
use Rattle.port_trait.specs.Number.{INPUT}
use Rattle.port_trait.specs.Whole.{FailsAfter, Reads}
use Rattle.list_keys.specs.Lines.{ends_with_return, lines}
use Rattle.list_keys.specs.Form.{IsFirstFault, IsGood}
use Rattle.list_keys.specs.Window.{HasGiven, Window}
use Rattle.list_keys.specs.declared.form.Terms.{Terms}
use Rattle.list_keys.specs.declared.fault.LineFault.{LineFault}
use Rattle.list_keys.specs.declared.fault.LinesFault.{LinesFault}
use Rattle.list_keys.specs.declared.fault.LinesFault.TheVariants.{Memory, NoLine, ReadFault, Refused}

-- a reader: what lines have to be, how many it gave, whether each of them ended with a carriage return, and the bytes
-- that it took
pub record Reading : Type 0 where
  pub terms : Terms
  pub number : ℕ
  pub returns : Bool
  pub window : Window

-- the reader has given these lines of Input, the first ones, each of them good
pub record HasRead (reader : Reading) (given : List (List ℕ)) (start now : World) : Type 0 where
  pub window : HasGiven reader.window given start now
  pub number : reader.number ≡ length given
  pub few : length given ≤ reader.terms.most
  pub good : All (IsGood reader.terms.form) given
  pub returns : reader.returns ≡ list_all ends_with_return given

-- Input was read to its end, and these are all of its lines
pub record GivesAll (given : List (List ℕ)) (start now : World) : Type 0 where
  pub read : List ℕ
  pub reads : Reads INPUT read start now
  pub all : IfSome (start.at INPUT).holds (λ held. read ≡ held)
  pub are : lines read ≡ given

-- Input was read as far as its first line with a fault
pub record Refuses (terms : Terms) (number : ℕ) (fault : LineFault) (start now : World) : Type 0 where
  pub read : List ℕ
  pub reads : Reads INPUT read start now
  pub first : IfSome (start.at INPUT).holds (λ held. IsFirstFault terms (lines held) number fault)

-- why not all lines of Input are given
abbrev pub FailsToGive : Terms → LinesFault → World → World → Type 0
FailsToGive terms ReadFault start now = FailsAfter INPUT start now
FailsToGive terms NoLine start now = GivesAll [] start now
FailsToGive terms (Refused number fault) start now = Refuses terms number fault start now
FailsToGive terms Memory start now = ⊥

-- one more line is given, or all are, or there is a fault
abbrev pub Gives : Result Bool LinesFault → Reading → List (List ℕ) → World → World → Type 0
Gives (Ok true) reader given start now = HasRead reader (given ++ reader.window.line ∷ []) start now
Gives (Ok false) reader given start now = (0 < length given) × HasRead reader given start now × GivesAll given start now
Gives (Err fault) reader given start now = FailsToGive reader.terms fault start now

-- the same, whatever was given before
abbrev pub GivesNext : Reading → Result Bool LinesFault → Reading → World → World → Type 0
GivesNext before result after old new =
    (given : List (List ℕ)) (start : World) → HasRead before given start old → Gives result after given start new
