use Rattle.std.proofs.Common.{◌∙◌, ℕ, List, ◌++◌, ap, sym}
use Rattle.std.specs.List.{concat}
use Rattle.std.proofs.lemmas.List.Folds.{concat-append}
use Rattle.std.proofs.lemmas.Result.{IfOk-from_err}
use Rattle.commands.specs.SelfrunOutcome.{words_of_decoding, words_of_servers}
use Rattle.commands.proofs.selfrun_command.format_line.Goals as goal

pub returns-in_err-line : goal.returns-in_err-line
returns-in_err-line c = IfOk-from_err c.from_residual.result _ c.from_residual.ensures.0

pub returns-in_err-format_decoding : goal.returns-in_err-format_decoding
returns-in_err-format_decoding c = IfOk-from_err c.from_residual-in_err-format_decoding.result _ c.from_residual-in_err-format_decoding.ensures.0

pub returns-in_err-push_str : goal.returns-in_err-push_str
returns-in_err-push_str c = IfOk-from_err c.from_residual-in_err-push_str.result _ c.from_residual-in_err-push_str.ensures.0

pub returns : goal.returns
returns c =
    let w = c.args.load.now in
    c.in_ok-push_str.ensures.bytes ∙ ap (λ (l : List ℕ). l ++ c.deref.result.now) c.in_ok-line.ensures
    ∙ ap (λ (l : List ℕ). concat (words_of_servers w) ++ l) (c.deref.ensures ∙ c.in_ok-format_decoding.ensures)
    ∙ sym (concat-append (words_of_servers w) (words_of_decoding w c.args.cost c.args.bound))
