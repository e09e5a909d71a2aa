use Rattle.std.proofs.Common.{◌≡◌, ◌∙◌, inl, inr, [], map, ap, subst, string_bytes}
use Rattle.clap.specs.Words.{App, HasKind, fault_of, is_simple, is_simple_and_free, kind_of, subcommand_of, subcommand_rows_of}
use Rattle.list_words.specs.Answer.{Comes}
use Rattle.list_words.specs.Command.{pir_list}
use Rattle.list_words.proofs.Parsing.{list_is_free, list_is_simple}
use Rattle.list_words.proofs.read.read_words.Goals as goal

pub returns-in-Ok-try_get_matches_from : goal.returns-in-Ok-try_get_matches_from
returns-in-Ok-try_get_matches_from c =
    let words = map string_bytes c.args.words.now in
    let app = c.in-Ok.ensures in
    let parse = c.in-Ok-try_get_matches_from.ensures in
    let none = subst (λ (a : App). fault_of a words ≡ []) app (parse.kinds (ap is_simple_and_free app ∙ list_is_free)) in
    let entered = (parse.matches (ap is_simple app ∙ list_is_simple)).1 ∙ ap (λ (a : App). subcommand_of a words) app in
    inr (inl (none, subst (λ e. Comes e c.read_matches.result) entered c.read_matches.ensures))

pub returns-in-Err : goal.returns-in-Err
returns-in-Err c =
    let words = map string_bytes c.args.words.now in
    let app = c.in-Ok.ensures in
    let error = c.in-Err.error in
    let parse = c.in-Err.ensures in
    let kinds = subst (λ (a : App). HasKind (fault_of a words) error) app (parse.kinds (ap is_simple_and_free app ∙ list_is_free)) in
    inr (inr record { kind = kind_of error; among = kinds; shown = c.read_error.ensures })
