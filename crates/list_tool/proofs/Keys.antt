-- Keys that are read from a file that is opened.
use Rattle.std.proofs.Common.{◌≡◌, inr, List, ℕ}
use Rattle.std.specs.Prelude.{Result, Ok, Err}
use Rattle.port_trait.specs.World.{World}
use Rattle.port_trait.specs.Number.{INPUT}
use Rattle.list_keys.specs.Keys.{ReadsKeys}
use Rattle.list_keys.specs.declared.form.Form.{Form}
use Rattle.list_keys.specs.declared.fault.LinesFault.{LinesFault}
use Rattle.list_keys.specs.declared.fault.LinesFault.TheVariants.{Memory, NoLine, ReadFault, Refused}
use Rattle.list_tool.specs.KeysFile.{Opens, ReadsKeysFile, ReadsOpened}

pub opened_keys : (name : List ℕ) (form : Form) (result : Result (List (List ℕ)) LinesFault) (w v u : World)
    → Opens INPUT name w v → ReadsKeys form result v u → ReadsKeysFile name form result w u
opened_keys name form (Ok keys) w v u opens reads = record { begun = v; opens = opens; reads = reads }
opened_keys name form (Err Memory) w v u opens reads = record { begun = v; opens = opens; reads = reads }
opened_keys name form (Err NoLine) w v u opens reads = record { begun = v; opens = opens; reads = reads }
opened_keys name form (Err (Refused number fault)) w v u opens reads = record { begun = v; opens = opens; reads = reads }
opened_keys name form (Err ReadFault) w v u opens reads = inr (record { begun = v; opens = opens; reads = reads })
