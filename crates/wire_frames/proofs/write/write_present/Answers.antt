use Rattle.std.proofs.Common.{◌≡◌, ◌∙◌, ◌++◌, [], ◌∷◌, List, ℕ, true, length, ap, arith, eqb-true, refl, subst, sym}
use Rattle.std.proofs.lemmas.List.{append-nil}
use Rattle.std.specs.Prelude.{◌==◌, Some}
use Rattle.std.proofs.lemmas.Result.{err_from_is_err_and}
use Rattle.port_trait.specs.Number.{RECORD}
use Rattle.port_trait.specs.Moves.{gave}
use Rattle.port_trait.specs.Whole.{FailsWithin}
use Rattle.port_trait.proofs.Cells.{fails_first}
use Rattle.port_trait.proofs.Pieces.{written_next, written_both}
use Rattle.wire_frames.specs.Layout.{record_header}
use Rattle.wire_frames.proofs.write.write_present.Goals as goal

-- bytes of which there are none
none_of : (bytes : List ℕ) → true ≡ (length bytes == 0) → bytes ≡ []
none_of [] none = refl
none_of (byte ∷ bytes) none = absurd (omega (arith, eqb-true _ _ (sym none)))

pub returns-in_err-write_all-clause-written : goal.returns-in_err-write_all-clause-written
returns-in_err-write_all-clause-written g c =
    let p = err_from_is_err_and c.from_residual.result c.from_residual.ensures.1 in
    let header = record_header c.args.index (Some (length c.args.bytes.now)) in
    let before = g.P.Ports.world c.args.ports.now in
    let after = g.P.Ports.world c.write_all.new.ports in
    let cut = subst (λ (l : List ℕ). FailsWithin RECORD l before after) c.record_header_of-header.ensures c.in_err-write_all.ensures.failed in
    rw p.1 (fails_first RECORD header c.args.bytes.now before after cut)

pub returns-then-is_empty-clause-written : goal.returns-then-is_empty-clause-written
returns-then-is_empty-clause-written g c =
    let header = record_header c.args.index (Some (length c.args.bytes.now)) in
    let before = g.P.Ports.world c.args.ports.now in
    let nothing = none_of c.args.bytes.now (sym c.if-is_empty.true ∙ c.is_empty.ensures) in
    let whole = c.record_header_of-header.ensures ∙ (sym (append-nil header) ∙ ap (λ (l : List ℕ). header ++ l) (sym nothing)) in
    c.in_ok-write_all.ensures.ok ∙ ap (λ (l : List ℕ). gave l (before.at RECORD)) whole

pub returns-clause-written : goal.returns-clause-written
returns-clause-written g c =
    let header = record_header c.args.index (Some (length c.args.bytes.now)) in
    let before = g.P.Ports.world c.args.ports.now in
    let between = g.P.Ports.world c.write_all.new.ports in
    let after = g.P.Ports.world c.write_all-2.new.ports in
    written_next RECORD header c.args.bytes.now c.write_all-2.result before between after
    (c.in_ok-write_all.ensures.ok ∙ ap (λ (l : List ℕ). gave l (before.at RECORD)) c.record_header_of-header.ensures)
    (written_both RECORD c.args.bytes.now c.write_all-2.result between after c.write_all-2.ensures.ok c.write_all-2.ensures.failed)
