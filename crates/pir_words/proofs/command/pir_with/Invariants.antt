use Rattle.std.proofs.Common.{◌≡◌, fold, take}
use Rattle.clap.specs.Words.{app_of}
use Rattle.pir_words.specs.Command.{bare}
use Rattle.pir_words.specs.Table.{with_command}
use Rattle.pir_words.proofs.command.pir_with.Given as goal

-- `pir` has the commands so far
abbrev pub invariant-loop-form : goal.invariant-loop-form
invariant-loop-form l = app_of l.pir ≡ fold with_command bare (take l.form-index l.forms)
