-- Reading all keys of Input.
use Rattle.std.specs.Prelude.{◌≡◌, ℕ, ◌<◌, ◌≤◌, List, map, length, All, Result, Ok, Err}
use Rattle.port_trait.specs.World.{World}
use Rattle.port_trait.specs.Number.{INPUT}
use Rattle.port_trait.specs.Whole.{Reads}
use Rattle.list_keys.specs.Form.{IsGood, key_of}
use Rattle.list_keys.specs.Reading.{FailsToGive, GivesAll, HasRead, Reading}
use Rattle.list_keys.specs.declared.TheConstants.{MOST_KEYS}
use Rattle.list_keys.specs.declared.form.Form.{Form}
use Rattle.list_keys.specs.declared.form.Terms.{Terms}
use Rattle.list_keys.specs.declared.fault.LinesFault.{LinesFault}
use Rattle.list_keys.specs.declared.fault.LinesFault.TheVariants.{Memory, NoLine, ReadFault, Refused}

-- lines of this form, and no more than there may be keys
abbrev pub keys_terms : Form → Terms
keys_terms form = record { form = form; most = MOST_KEYS }

-- these are the keys of all lines of Input, in their order, each of them good
pub record AreKeys (form : Form) (keys : List (List ℕ)) (start now : World) : Type 0 where
  pub given : List (List ℕ)
  pub all : GivesAll given start now
  pub good : All (IsGood form) given
  pub some : 0 < length given
  pub few : length given ≤ MOST_KEYS
  pub are : keys ≡ map (key_of form) given

-- a part of Input was read, and there is no more to say
abbrev pub ReadsSome : World → World → Type 0
ReadsSome start now = (read : List ℕ) × Reads INPUT read start now

-- the keys of Input, or why there are none
abbrev pub ReadsKeys : Form → Result (List (List ℕ)) LinesFault → World → World → Type 0
ReadsKeys form (Ok keys) start now = AreKeys form keys start now
ReadsKeys form (Err Memory) start now = ReadsSome start now
ReadsKeys form (Err ReadFault) start now = FailsToGive (keys_terms form) ReadFault start now
ReadsKeys form (Err NoLine) start now = FailsToGive (keys_terms form) NoLine start now
ReadsKeys form (Err (Refused number fault)) start now = FailsToGive (keys_terms form) (Refused number fault) start now

-- these are the keys of the lines that a reader gave so far
pub record KeysSoFar (form : Form) (keys : List (List ℕ)) (reader : Reading) (start now : World) : Type 0 where
  pub given : List (List ℕ)
  pub terms : reader.terms ≡ keys_terms form
  pub read : HasRead reader given start now
  pub are : keys ≡ map (key_of form) given
