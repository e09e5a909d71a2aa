use Rattle.std.proofs.lemmas.Result.{err_from_is_err_and}
use Rattle.port_trait.proofs.Cells.{touches_more, fails_first}
use Rattle.port_trait.proofs.Pieces.{written_next}
use Rattle.block_decoder.specs.Text.{report_text, text}
use Rattle.commands.proofs.report.write_both.Goals as goal

pub returns-clause-written : goal.returns-clause-written
returns-clause-written g c =
    let between = g.P.Ports.world c.write_verdict.new.ports in
    let after = g.P.Ports.world c.write_report.new.ports in
    written_next 1 (text c.args.verdict.now) (report_text c.args.session.now c.args.report.now) c.write_report.result _ between after
    c.in_ok-write_verdict.ensures.written c.write_report.ensures.written

pub returns-in_err-write_verdict-clause-written : goal.returns-in_err-write_verdict-clause-written
returns-in_err-write_verdict-clause-written g c =
    let p = err_from_is_err_and c.from_residual.result c.from_residual.ensures.1 in
    rw p.1 (fails_first 1 (text c.args.verdict.now) _ _ _ c.in_err-write_verdict.ensures.written)

pub returns-in_err-write_verdict-clause-others : goal.returns-in_err-write_verdict-clause-others
returns-in_err-write_verdict-clause-others g c = c.in_err-write_verdict.ensures.others

pub returns-clause-others : goal.returns-clause-others
returns-clause-others g c = touches_more _ _ _ _ c.in_ok-write_verdict.ensures.others c.write_report.ensures.others

pub write_report-requires : goal.write_report-requires
write_report-requires g c = c.requires
