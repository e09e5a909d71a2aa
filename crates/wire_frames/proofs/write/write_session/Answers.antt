use Rattle.std.proofs.Common.{◌∙◌, List, ℕ, ap, subst, refl}
use Rattle.std.proofs.lemmas.Result.{err_from_is_err_and}
use Rattle.port_trait.specs.Number.{RECORD}
use Rattle.port_trait.specs.Moves.{gave}
use Rattle.port_trait.specs.Whole.{FailsWithin}
use Rattle.port_trait.proofs.Cells.{fails_first}
use Rattle.port_trait.proofs.Pieces.{written_next}
use Rattle.wire_frames.specs.Session.{header_bytes, records_bytes}
use Rattle.wire_frames.proofs.write.write_session.Goals as goal

pub returns-in_err-write_all-clause-written : goal.returns-in_err-write_all-clause-written
returns-in_err-write_all-clause-written g c =
    let session = c.args.session.now in
    let p = err_from_is_err_and c.from_residual.result c.from_residual.ensures.1 in
    let is = c.header_of-header.ensures ∙ ap header_bytes c.params.ensures.value in
    let before = g.P.Ports.world c.args.ports.now in
    let after = g.P.Ports.world c.write_all.new.ports in
    let cut = subst (λ (l : List ℕ). FailsWithin RECORD l before after) is c.in_err-write_all.ensures.failed in
    rw p.1 (fails_first RECORD (header_bytes session.params) (records_bytes 1 session.records) before after cut)

pub returns-clause-written : goal.returns-clause-written
returns-clause-written g c =
    let session = c.args.session.now in
    let is = c.header_of-header.ensures ∙ ap header_bytes c.params.ensures.value in
    let before = g.P.Ports.world c.args.ports.now in
    let between = g.P.Ports.world c.write_all.new.ports in
    let after = g.P.Ports.world c.write_records.new.ports in
    written_next RECORD (header_bytes session.params) (records_bytes 1 session.records) c.write_records.result before between after
    (c.in_ok-write_all.ensures.ok ∙ ap (λ (l : List ℕ). gave l (before.at RECORD)) is) c.write_records.ensures.written

pub returns-in_err-write_all-clause-file : goal.returns-in_err-write_all-clause-file
returns-in_err-write_all-clause-file g c = record { range = c.params.ensures.range; all = c.requires; fits = c.record_count.ensures.fits; spelled = refl }

pub returns-clause-file : goal.returns-clause-file
returns-clause-file g c = record { range = c.params.ensures.range; all = c.requires; fits = c.record_count.ensures.fits; spelled = refl }
