use Rattle.std.proofs.Common.{◌≡◌, false, fold, take}
use Rattle.clap.specs.Words.{app_of, new_app}
use Rattle.clap.specs.declared.builder.command.Command.TheViews.{out-Command}
use Rattle.list_words.specs.Table.{with_argument}
use Rattle.list_words.proofs.command.command_of.Given as goal

-- the command has the arguments so far, none of which commands below it share
abbrev pub invariant-loop-one : goal.invariant-loop-one
invariant-loop-one l = record {
  app : app_of l.command ≡ fold with_argument (new_app l.form.name.now) (take l.one-index l.form.arguments.now);
  local : (out-Command l.command).has_globals ≡ false;
}
