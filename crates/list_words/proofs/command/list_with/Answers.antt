use Rattle.std.proofs.Common.{◌∙◌, true, ap, ap₂, arith, fold, sym}
use Rattle.std.proofs.lemmas.List.{take_all}
use Rattle.std.proofs.lemmas.List.Sums.{fold_more}
use Rattle.clap.specs.Words.{App, with_subcommand}
use Rattle.clap.specs.Simple.{app_of_fields}
use Rattle.list_words.specs.Command.{bare}
use Rattle.list_words.specs.Table.{with_command}
use Rattle.list_words.proofs.command.list_with.Goals as goal

pub loop-form-init : goal.loop-form-init
loop-form-init c =
    let nameless = ap app_of_fields c.no_binary_name.ensures ∙ ap (λ (a : App). record a { top = record a.top { no_binary_name = true } }) c.new.ensures.app in
    let versioned = ap app_of_fields c.version.ensures ∙ ap (λ (a : App). record a { top = record a.top { has_version = true } }) nameless in
    ap app_of_fields c.about-list.ensures ∙ versioned

pub loop-form-preserved : goal.loop-form-preserved
loop-form-preserved c = c.in_ok-list.ensures.shape c.in_ok-command_of.ensures.local
    ∙ (ap₂ (λ (old sub : App). with_subcommand old sub.top) c.loop-form.invariant c.in_ok-command_of.ensures.app
    ∙ sym (fold_more with_command bare c.args.forms.now c.loop-form.form-index _ c.loop-form-test.true))

pub returns : goal.returns
returns c = record { app = c.loop-form.invariant ∙ ap (fold with_command bare) (take_all c.loop-form.form-index c.args.forms.now (omega arith)) }
