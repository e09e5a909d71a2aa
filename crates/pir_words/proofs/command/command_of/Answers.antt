use Rattle.std.proofs.Common.{◌∙◌, ◌||◌, ap, ap₂, arith, fold, sym}
use Rattle.std.proofs.lemmas.List.{take_all}
use Rattle.std.proofs.lemmas.List.Sums.{fold_more}
use Rattle.clap.specs.Words.{new_app, with_rule}
use Rattle.pir_words.specs.Table.{with_argument}
use Rattle.pir_words.proofs.command.command_of.Goals as goal

pub loop-name-init : goal.loop-name-init
loop-name-init c = record { app = c.new-command.ensures.app; local = c.new-command.ensures.local }

pub loop-name-preserved : goal.loop-name-preserved
loop-name-preserved c = record {
  app = c.in_ok-command.ensures.shape c.argument.ensures.local ∙ (ap₂ with_rule c.loop-name.invariant.app c.argument.ensures.rule
      ∙ sym (fold_more with_argument _ c.args.form.arguments.now c.loop-name.name-index _ c.loop-name-test.true));
  local = c.in_ok-command.ensures.globals ∙ ap₂ ◌||◌ c.loop-name.invariant.local c.argument.ensures.local;
}

pub returns-clause-app : goal.returns-clause-app
returns-clause-app c = c.loop-name.invariant.app ∙ ap (fold with_argument (new_app c.args.form.name.now)) (take_all c.loop-name.name-index c.args.form.arguments.now (omega arith))

pub returns-clause-local : goal.returns-clause-local
returns-clause-local c = c.loop-name.invariant.local
