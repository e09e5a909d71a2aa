use Rattle.std.proofs.Common.{◌∙◌, map, string_bytes, sym}
use Rattle.std.proofs.lemmas.Result.{err_from_is_err_and}
use Rattle.clap.specs.Words.{subcommand_rows_of}
use Rattle.pir_words.proofs.Entered.{taken, untaken}
use Rattle.pir_words.proofs.read_words.Goals as goal

pub returns-clause-form : goal.returns-clause-form
returns-clause-form c =
    let ok = c.in_ok-matches.ensures in
    taken (map string_bytes c.args.words.now) (subcommand_rows_of c.in_ok-matches.matches) c.read_matches.result ok.taken ok.entered c.read_matches.ensures.form

pub returns-in_err-matches-clause-form : goal.returns-in_err-matches-clause-form
returns-in_err-matches-clause-form c =
    let fault = err_from_is_err_and c.from_residual.result c.from_residual.ensures.1 in
    rw fault.1 (untaken (map string_bytes c.args.words.now) fault.0 (λ usage. c.in_err-matches.ensures.err (sym fault.2 ∙ usage)))
