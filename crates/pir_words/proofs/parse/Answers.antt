use Rattle.std.proofs.Common.{◌≡◌, ◌∙◌, [], length, map, ap, subst, string_bytes}
use Rattle.std.specs.Prelude.{◌==◌}
use Rattle.std.proofs.lemmas.Result.{err_from_is_err_and}
use Rattle.clap.specs.Words.{App, HasKind, fault_of, is_simple, is_simple_and_free, kind_of, subcommand_of}
use Rattle.pir_words.specs.Form.{are_taken, pir}
use Rattle.pir_words.proofs.Parsing.{pir_is_free, pir_is_simple, some_kind}
use Rattle.pir_words.proofs.parse.Goals as goal

pub returns-clause-taken : goal.returns-clause-taken
unfolding are_taken
returns-clause-taken c =
    let words = map string_bytes c.args.words.now in
    let app = c.in-Ok.ensures in
    let parse = c.in_ok-try_get_matches_from.ensures in
    ap (λ ks. length ks == 0) (subst (λ (a : App). fault_of a words ≡ []) app (parse.kinds (ap is_simple_and_free app ∙ pir_is_free)))

pub returns-clause-entered : goal.returns-clause-entered
returns-clause-entered c =
    let words = map string_bytes c.args.words.now in
    let app = c.in-Ok.ensures in
    let parse = c.in_ok-try_get_matches_from.ensures in
    (parse.matches (ap is_simple app ∙ pir_is_simple)).1 ∙ ap (λ (a : App). subcommand_of a words) app

pub returns-in_err-try_get_matches_from-clause-err : goal.returns-in_err-try_get_matches_from-clause-err
unfolding are_taken
returns-in_err-try_get_matches_from-clause-err c =
    let words = map string_bytes c.args.words.now in
    let app = c.in-Ok.ensures in
    let error = c.in_err-try_get_matches_from.field-0.0 in
    let parse = c.in_err-try_get_matches_from.ensures in
    let kinds = subst (λ (a : App). HasKind (fault_of a words) error) app (parse.kinds (ap is_simple_and_free app ∙ pir_is_free)) in
    let fault = err_from_is_err_and c.from_residual.result c.from_residual.ensures.1 in
    rw fault.1 (λ usage. some_kind (kind_of error) (fault_of pir words) fault.0 fault.2 usage kinds)
