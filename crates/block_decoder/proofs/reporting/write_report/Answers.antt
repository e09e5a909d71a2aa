use Rattle.std.proofs.Common.{ℕ, List, ◌∙◌, ap, subst}
use Rattle.std.specs.Prelude.{flat_map}
use Rattle.std.proofs.lemmas.Result.{err_from_is_err_and}
use Rattle.wire_frames.specs.Answer.{answers}
use Rattle.port_trait.specs.Number.{OUTPUT}
use Rattle.port_trait.specs.Moves.{gave}
use Rattle.port_trait.specs.Written.{Written}
use Rattle.port_trait.proofs.Pieces.{written_next}
use Rattle.block_decoder.specs.Report.{Agreement}
use Rattle.block_decoder.specs.Text.{agree_line, liars_line, report_text}
use Rattle.port_trait.proofs.Cells.{touches_more, fails_first}
use Rattle.block_decoder.proofs.reporting.write_report.Goals as goal

pub returns-in_err-write_agreements-clause-written : goal.returns-in_err-write_agreements-clause-written
unfolding report_text
returns-in_err-write_agreements-clause-written g c =
    let p = err_from_is_err_and c.from_residual.result c.from_residual.ensures.1 in
    let lines = ap (flat_map agree_line) c.agreements.ensures.all in
    rw (p.1, ← lines) (fails_first 1 (flat_map agree_line c.agreements.result.now) _ _ _ c.in_err-write_agreements.ensures.written)

pub returns-clause-written : goal.returns-clause-written
unfolding report_text
returns-clause-written g c =
    let session = c.args.session.now in
    let before = g.P.Ports.world c.write_agreements.new.ports in
    let after = g.P.Ports.world c.write_liars.new.ports in
    let line : List Agreement → List ℕ = liars_line (answers session) session.params.t session.params.h in
    let liars = subst (λ (all : List Agreement). Written OUTPUT (line all) c.write_liars.result before after) c.agreements-2.ensures.all c.write_liars.ensures.written in
    let first = c.in_ok-write_agreements.ensures.written ∙ ap (λ (all : List Agreement). gave (flat_map agree_line all) ((g.P.Ports.world c.args.ports.now).at OUTPUT)) c.agreements.ensures.all in
    written_next 1 (flat_map agree_line c.args.report.now) (line c.args.report.now) c.write_liars.result (g.P.Ports.world c.args.ports.now) before after first liars

pub returns-in_err-write_agreements-clause-others : goal.returns-in_err-write_agreements-clause-others
returns-in_err-write_agreements-clause-others g c = c.in_err-write_agreements.ensures.others

pub returns-clause-others : goal.returns-clause-others
returns-clause-others g c = touches_more _ _ _ _ c.in_ok-write_agreements.ensures.others c.write_liars.ensures.others
