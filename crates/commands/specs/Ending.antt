-- How the program ends: as a run of its words does, by the status of that run.
use Rattle.std.specs.Prelude.{◌≡◌, List, ℕ}
use Rattle.std.specs.Process.{exit_status}
use Rattle.port_trait.specs.World.{World}
use Rattle.commands.specs.Outcome.{AnswersSession, EndsAsOrdered, KeepsPromise, RefusesWords}
use Rattle.commands.specs.Table.{code_of, line_of}
use Rattle.commands.specs.declared.status.Status.{Status}
use Rattle.commands.specs.declared.status.Ending.{Ending}

-- all that `run` promises of its words and its status
pub record IsRun (words : List (List ℕ)) (status : Status) (old new : World) : Type 0 where
  pub refuses : RefusesWords words status old new
  pub outcome : EndsAsOrdered words status old new
  pub headline : AnswersSession words status old new
  pub promise : KeepsPromise words status old new

-- a run of the words came to this status, and the exit code and the line are the status's
pub record EndsAsRun (words : List (List ℕ)) (status : Status) (ending : Ending) (old new : World) : Type 0 where
  pub ran : IsRun words status old new
  pub code : exit_status ending.code ≡ code_of status
  pub line : ending.line.now ≡ line_of status
