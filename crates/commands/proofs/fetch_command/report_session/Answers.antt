use Rattle.std.proofs.Common.{◌∙◌, inr, lit<, refl, arith}
use Rattle.commands.proofs.fetch_command.report_session.Goals as goal

pub returns-in-Err-clause-reports : goal.returns-in-Err-clause-reports
returns-in-Err-clause-reports g c = inr (c.in-Err.ensures.keeps, refl, c.record_session.ensures.others.others 1 (lit< tt) (λ e. omega (arith, e)))

pub returns-in-Err-clause-others : goal.returns-in-Err-clause-others
returns-in-Err-clause-others g c =
    let kept = c.record_session.ensures.others in
    record { others = λ q l to_tell to_keep. kept.others q l to_keep; crowd = kept.crowd; started = kept.started }

pub returns-in-Ok-clause-others : goal.returns-in-Ok-clause-others
returns-in-Ok-clause-others g c =
    let kept = c.record_session.ensures.others in
    let told = c.report_whole.ensures.others in
    record {
      others = λ q l to_tell to_keep. told.others q l to_tell ∙ kept.others q l to_keep;
      crowd = told.crowd ∙ kept.crowd;
      started = told.started ∙ kept.started;
    }
