use Rattle.std.proofs.Common.{◌≡◌, ◌∙◌, ◌+◌, ◌-◌, ◌<◌, ℕ, List, length, get_or, ap, sym, subst, arith, refl}
use Rattle.std.specs.Prelude.{Option, Some, None, IfSome}
use Rattle.std.specs.Option.{option_copied}
use Rattle.std.proofs.lemmas.List.{take_all}
use Rattle.std.proofs.lemmas.List.Elements.{All-get_or}
use Rattle.std.proofs.lemmas.Result.{err_from_is_err_and}
use Rattle.port_trait.specs.Number.{RECORD}
use Rattle.port_trait.specs.Moves.{gave}
use Rattle.port_trait.proofs.Cells.{gave-gave, touches_more}
use Rattle.port_trait.proofs.Pieces.{gave_none, written_cut}
use Rattle.wire_frames.specs.Sizes.{answer_len}
use Rattle.wire_frames.specs.Session.{Fits, records_bytes}
use Rattle.wire_frames.proofs.Filing.{records_more, records_pieces}
use Rattle.wire_frames.proofs.write.write_records.Goals as goal

pub loop-i-init : goal.loop-i-init
loop-i-init g c = record { so_far = sym (gave_none _); others = record { others = λ q lt ne. refl; crowd = refl; started = refl } }

-- what is to be written of a record fits
fits_below : (most : ℕ) (x : Option (List ℕ)) → Fits most x → most < 4294967296 → IfSome x (λ b. length b < 4294967296)
fits_below most None h lt = tt
fits_below most (Some b) h lt = omega (arith, h.0)

pub write_record-requires : goal.write_record-requires
write_record-requires g c =
    let most = answer_len c.args.session.now.params.count c.args.session.now.params.s in
    let fits = All-get_or (Fits most) c.args.session.now.records (c.loop-i.i + 1 - 1) None (omega arith) c.record_count-i-end.ensures.fits in
    fits_below most _ (subst (Fits most) (sym c.record_at.ensures) fits) (omega arith)

pub loop-i-preserved : goal.loop-i-preserved
loop-i-preserved g c =
    let is : option_copied c.record_at.result ≡ get_or c.args.session.now.records c.loop-i.i None = c.record_at.ensures ∙ ap (λ k. get_or c.args.session.now.records k None) (omega arith) in
    let more = records_more c.args.session.now.records c.loop-i.i (option_copied c.record_at.result) (omega arith) is in
    record {
      so_far = c.in_ok-write_record.ensures.written ∙ ap (gave _) c.loop-i.invariant.so_far ∙ gave-gave _ _ _ ∙ ap (λ l. gave l ((g.P.Ports.world c.args.ports.now).at RECORD)) (sym more);
      others = touches_more _ _ _ _ c.loop-i.invariant.others c.write_record.ensures.others;
    }

pub returns-in_err-write_record-clause-written : goal.returns-in_err-write_record-clause-written
returns-in_err-write_record-clause-written g c =
    let is : option_copied c.record_at.result ≡ get_or c.args.session.now.records c.loop-i.i None = c.record_at.ensures ∙ ap (λ k. get_or c.args.session.now.records k None) (omega arith) in
    let whole = records_pieces c.args.session.now.records c.loop-i.i (option_copied c.record_at.result) (omega arith) is in
    let p = err_from_is_err_and c.from_residual.result c.from_residual.ensures.1 in
    rw (p.1, whole) (written_cut RECORD _ _ _ _ _ _ c.loop-i.invariant.so_far c.in_err-write_record.ensures.written)

pub returns-clause-written : goal.returns-clause-written
returns-clause-written g c =
    let all = take_all c.loop-i.i c.args.session.now.records (omega arith) in
    c.loop-i.invariant.so_far ∙ ap (λ l. gave (records_bytes 1 l) ((g.P.Ports.world c.args.ports.now).at RECORD)) all
