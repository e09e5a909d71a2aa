use Rattle.std.proofs.Common.{Some, ap, sym}
use Rattle.std.proofs.lemmas.Result.{err_from_is_err_and}
use Rattle.pir_words.specs.ReplayForm.{replay_of}
use Rattle.pir_words.specs.declared.asked.Asked.TheVariants.{Replay}
use Rattle.pir_words.proofs.Chains.{given_on, not_read}
use Rattle.pir_words.proofs.replay_words.read_replay.Goals as goal

pub returns-in_err-file : goal.returns-in_err-file
unfolding replay_of
returns-in_err-file c =
    let fault = err_from_is_err_and c.from_residual.result c.from_residual.ensures.1 in
    not_read _ _ c.from_residual.result fault.1 fault.2 c.in_err-file.ensures

pub returns : goal.returns
unfolding replay_of
returns c = given_on _ (sym c.in_ok-file.ensures) (ap (λ report. Some (Replay c.in_ok-file.file report)) (sym c.flag_at-report.ensures))
