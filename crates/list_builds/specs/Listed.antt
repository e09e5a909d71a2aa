-- Reading the list in the file of keys.
use Rattle.std.specs.Prelude.{◌≡◌, ◌⊎◌, ℕ, ◌<◌, ◌≤◌, List, [], length, All, IfSome, Result, Ok, Err}
use Rattle.std.specs.List.{list_all}
use Rattle.port_trait.specs.World.{Cell, World}
use Rattle.port_trait.specs.Number.{INPUT}
use Rattle.port_trait.specs.Moves.{RoseOnce, counted, named, took}
use Rattle.list_keys.specs.Form.{IsFirstFault, IsGood, IsWhole}
use Rattle.list_keys.specs.Lines.{ends_with_return, lines}
use Rattle.list_keys.specs.declared.form.Terms.{Terms}
use Rattle.list_keys.specs.declared.fault.LineFault.{LineFault}
use Rattle.list_builds.specs.Gathering.{Gathered, Gathers}
use Rattle.list_builds.specs.declared.fault.BuildFault.{BuildFault}
use Rattle.list_builds.specs.declared.fault.BuildFault.TheVariants.{KeysFault, NoLine, Refused, Memory}

-- the file of keys was opened by this name and read to its end, and these are its lines
pub record HasLines (name : List ℕ) (given : List (List ℕ)) (old new : Cell) : Type 0 where
  pub read : List ℕ
  pub cell : new ≡ took (length read) (named name old)
  pub all : IfSome old.holds (λ held. read ≡ held)
  pub are : lines read ≡ given

-- nothing is wrong with its lines, and the list is gathered from them: digests of so many bytes under that salt, and values
pub record IsListed (name salt : List ℕ) (size : ℕ) (terms : Terms) (list : Gathered) (old new : Cell) : Type 0 where
  pub given : List (List ℕ)
  pub has : HasLines name given old new
  pub good : All (IsGood terms.form) given
  pub whole : All (IsWhole terms.form) given
  pub some : 0 < length given
  pub few : length given ≤ terms.most
  pub gathers : Gathers salt size terms.form given list.held list.longest
  pub returns : list.returns ≡ list_all ends_with_return given

-- it was opened by this name, and read as far as its first line with a fault
pub record IsRefused (name : List ℕ) (terms : Terms) (number : ℕ) (fault : LineFault) (old new : Cell) : Type 0 where
  pub read : List ℕ
  pub cell : new ≡ took (length read) (named name old)
  pub first : IfSome old.holds (λ held. IsFirstFault terms (lines held) number fault)

-- a call on its port failed: to open it by this name, or to take from it later
pub record CutsList (name : List ℕ) (old new : Cell) : Type 0 where
  pub n : ℕ
  pub cell : (new ≡ counted new.faults old) ⊎ (new ≡ counted new.faults (took n (named name old)))
  pub rose : RoseOnce old.faults new.faults

-- what reading a list answers
abbrev pub ReadsList : List ℕ → List ℕ → ℕ → Terms → Result Gathered BuildFault → World → World → Type 0
ReadsList name salt size terms (Ok list) old new = IsListed name salt size terms list (old.at INPUT) (new.at INPUT)
ReadsList name salt size terms (Err KeysFault) old new = CutsList name (old.at INPUT) (new.at INPUT)
ReadsList name salt size terms (Err NoLine) old new = HasLines name [] (old.at INPUT) (new.at INPUT)
ReadsList name salt size terms (Err (Refused number fault)) old new = IsRefused name terms number fault (old.at INPUT) (new.at INPUT)
ReadsList name salt size terms (Err Memory) old new = Unit {0}
ReadsList name salt size terms (Err fault) old new = ⊥
