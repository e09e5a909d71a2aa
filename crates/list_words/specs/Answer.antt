-- What words ask for.
use Rattle.std.specs.Prelude.{◌≡◌, ◌⊎◌, List, [], Option, None, Some, Result, Ok, Err, codes}
use Rattle.clap.specs.Words.{IsAmong, Kinds, Row, Text, fault_of, subcommand_of}
use Rattle.clap.specs.declared.error.kind.ErrorKind.{ErrorKind}
use Rattle.clap.specs.declared.error.kind.ErrorKind.TheVariants.{DisplayHelp, DisplayVersion, OutOfMemory}
use Rattle.list_words.specs.Command.{pir_list}
use Rattle.list_words.specs.Values.{IsBuild, IsCheck, IsFind, build_fault, find_fault}
use Rattle.list_words.specs.declared.asked.Asked.{Asked}
use Rattle.list_words.specs.declared.asked.Asked.TheVariants.{Build, Check, Find, Help, Version}
use Rattle.list_words.specs.declared.fault.ValueFault.{ValueFault}
use Rattle.list_words.specs.declared.fault.WordsFault.{WordsFault}
use Rattle.list_words.specs.declared.fault.WordsFault.TheVariants.{Memory, NoCommand, Refused, Value}

-- what a command comes to, by its name and what the words give to its arguments
abbrev pub IsCommand : Text → List Row → Result Asked WordsFault → Type 0
IsCommand name m (Ok (Build build)) = (name ≡ codes "build") × (build_fault m ≡ None) × IsBuild m build
IsCommand name m (Ok (Find find)) = (name ≡ codes "find") × (find_fault m ≡ None) × IsFind m find
IsCommand name m (Ok (Check check)) = (name ≡ codes "check") × IsCheck m check
IsCommand name m (Ok (Help text)) = ⊥
IsCommand name m (Ok (Version text)) = ⊥
IsCommand name m (Err (Value fault)) =
    ((name ≡ codes "build") × (build_fault m ≡ Some fault)) ⊎ ((name ≡ codes "find") × (find_fault m ≡ Some fault))
IsCommand name m (Err NoCommand) = (name ≡ codes "build" → ⊥) × (name ≡ codes "find" → ⊥) × (name ≡ codes "check" → ⊥)
IsCommand name m (Err (Refused text)) = ⊥
IsCommand name m (Err Memory) = ⊥

-- what words come to that enter this command, or none
abbrev pub Comes : Option (Text × List Row) → Result Asked WordsFault → Type 0
Comes None result = result ≡ Err NoCommand
Comes (Some entered) result = IsCommand entered.0 entered.1 result

-- what is shown for an error of `clap` of this kind: help, the version, or its sentence
abbrev pub IsShown : ErrorKind → Result Asked WordsFault → Type 0
IsShown kind (Ok (Help text)) = kind ≡ DisplayHelp
IsShown kind (Ok (Version text)) = kind ≡ DisplayVersion
IsShown kind (Ok (Build build)) = ⊥
IsShown kind (Ok (Find find)) = ⊥
IsShown kind (Ok (Check check)) = ⊥
IsShown kind (Err (Refused text)) = (kind ≡ OutOfMemory → ⊥) × (kind ≡ DisplayHelp → ⊥) × (kind ≡ DisplayVersion → ⊥)
IsShown kind (Err (Value fault)) = ⊥
IsShown kind (Err NoCommand) = ⊥
IsShown kind (Err Memory) = Unit {0}

-- what words come to that `clap` finds one of these faults in
pub record IsRefused (kinds : Kinds) (result : Result Asked WordsFault) : Type 0 where
  pub kind : ErrorKind
  pub among : (kind ≡ OutOfMemory) ⊎ IsAmong kind kinds
  pub shown : IsShown kind result

-- what words come to, want of memory aside: their command where `clap` finds no fault in them, and else its answer
abbrev pub IsAnswer : List Text → Result Asked WordsFault → Type 0
IsAnswer words result = (result ≡ Err Memory)
    ⊎ (((fault_of pir_list words ≡ []) × Comes (subcommand_of pir_list words) result) ⊎ IsRefused (fault_of pir_list words) result)
