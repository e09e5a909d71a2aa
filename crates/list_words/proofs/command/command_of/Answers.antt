use Rattle.std.proofs.Common.{◌∙◌, ◌||◌, ap, ap₂, arith, fold, sym}
use Rattle.std.proofs.lemmas.List.{take_all}
use Rattle.std.proofs.lemmas.List.Sums.{fold_more}
use Rattle.clap.specs.Words.{new_app, with_rule}
use Rattle.clap.specs.Simple.{app_of_fields}
use Rattle.list_words.specs.Table.{with_argument}
use Rattle.list_words.proofs.command.command_of.Goals as goal

pub loop-one-init : goal.loop-one-init
loop-one-init c = record { app = ap app_of_fields c.about-command.ensures ∙ c.new.ensures.app; local = (λ i. (c.about-command.ensures i).has_globals) ∙ c.new.ensures.local }

pub loop-one-preserved : goal.loop-one-preserved
loop-one-preserved c = record {
  app = c.in_ok-command.ensures.shape c.arg_of.ensures.local ∙ (ap₂ with_rule c.loop-one.invariant.app c.arg_of.ensures.rule
      ∙ sym (fold_more with_argument _ c.args.form.arguments.now c.loop-one.one-index _ c.loop-one-test.true));
  local = c.in_ok-command.ensures.globals ∙ ap₂ ◌||◌ c.loop-one.invariant.local c.arg_of.ensures.local;
}

pub returns-clause-app : goal.returns-clause-app
returns-clause-app c = c.loop-one.invariant.app ∙ ap (fold with_argument (new_app c.args.form.name.now)) (take_all c.loop-one.one-index c.args.form.arguments.now (omega arith))

pub returns-clause-local : goal.returns-clause-local
returns-clause-local c = c.loop-one.invariant.local
