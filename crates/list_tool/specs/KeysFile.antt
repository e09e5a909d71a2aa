-- Reading the keys in a file.
use Rattle.std.specs.Prelude.{◌≡◌, ◌⊎◌, ℕ, ◌==◌, if◌then◌else◌, List, Result, Err}
use Rattle.port_trait.specs.World.{World}
use Rattle.port_trait.specs.Number.{INPUT}
use Rattle.port_trait.specs.Moves.{Fails, Touches, named}
use Rattle.list_keys.specs.Keys.{ReadsKeys}
use Rattle.list_keys.specs.declared.form.Form.{Form}
use Rattle.list_keys.specs.declared.form.Form.TheVariants.{Key, KeyWithoutTab}
use Rattle.list_keys.specs.declared.fault.LinesFault.{LinesFault}
use Rattle.list_keys.specs.declared.fault.LinesFault.TheVariants.{ReadFault}

-- the keys of a list whose values have at most so many bytes: where it has values, no key has a tab
abbrev pub form_for : ℕ → Form
form_for most = if most == 0 then Key else KeyWithoutTab

-- the port was opened by this name, and nothing else was done
pub record Opens (p : ℕ) (name : List ℕ) (old new : World) : Type 0 where
  pub cell : new.at p ≡ named name (old.at p)
  pub others : Touches p old new

-- Input was opened by this name, and then its keys were read
pub record ReadsOpened (name : List ℕ) (form : Form) (result : Result (List (List ℕ)) LinesFault) (old new : World) : Type 0 where
  pub begun : World
  pub opens : Opens INPUT name old begun
  pub reads : ReadsKeys form result begun new

-- the keys in the file of this name, or why there are none
abbrev pub ReadsKeysFile : List ℕ → Form → Result (List (List ℕ)) LinesFault → World → World → Type 0
ReadsKeysFile name form (Err ReadFault) old new = Fails INPUT old new ⊎ ReadsOpened name form (Err ReadFault) old new
ReadsKeysFile name form result old new = ReadsOpened name form result old new
