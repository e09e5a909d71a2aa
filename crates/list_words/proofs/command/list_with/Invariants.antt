use Rattle.std.proofs.Common.{◌≡◌, fold, take}
use Rattle.clap.specs.Words.{app_of}
use Rattle.list_words.specs.Command.{bare}
use Rattle.list_words.specs.Table.{with_command}
use Rattle.list_words.proofs.command.list_with.Given as goal

-- `pir_list` has the commands so far
abbrev pub invariant-loop-form : goal.invariant-loop-form
invariant-loop-form l = app_of l.list ≡ fold with_command bare (take l.form-index l.forms)
