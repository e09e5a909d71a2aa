use Rattle.std.proofs.Common.{◌≡◌, ◌+◌, ◌-◌, ◌∙◌, ap, sym, take, drop, arith, refl}
use Rattle.hex.specs.Hex.{encode_lower}
use Rattle.port_trait.specs.Moves.{gave}
use Rattle.port_trait.proofs.Cells.{gave-gave, touches_more}
use Rattle.port_trait.proofs.Pieces.{gave_none, written_cut}
use Rattle.std.proofs.lemmas.Result.{err_from_is_err_and}
use Rattle.port_trait.specs.Number.{OUTPUT}
use Rattle.block_decoder.proofs.HexText.{encode_lower-nil, encode_lower-take, encode_lower-pieces}
use Rattle.block_decoder.proofs.write.write_hex.Goals as goal

pub pieces-init : goal.pieces-init
pieces-init g c =
    let world = g.P.Ports.world c.args.ports.now in
    record {
      within = omega arith;
      so_far = sym (ap (λ l. gave l (world.at OUTPUT)) encode_lower-nil ∙ gave_none (world.at OUTPUT));
      others = record { others = λ q lt ne. refl; crowd = refl; started = refl };
    }

pub returns-in_err-write_piece-clause-written : goal.returns-in_err-write_piece-clause-written
returns-in_err-write_piece-clause-written g c =
    let at = c.pieces.at in
    let bytes = c.args.bytes.now in
    let size = c.min-end.result - at in
    let whole = encode_lower-pieces at size bytes in
    let p = err_from_is_err_and c.from_residual.result c.from_residual.ensures.1 in
    rw (p.1, whole) (written_cut 1 _ _ _ _ _ _ c.pieces.invariant.so_far c.in_err-write_piece.ensures.written)

pub pieces-preserved : goal.pieces-preserved
pieces-preserved g c =
    let at = c.pieces.at in
    let bytes = c.args.bytes.now in
    let size = c.min-end.result - at in
    let end : at + size ≡ c.min-end.result = omega arith in
    record {
      within = omega arith;
      so_far = c.in_ok-write_piece.ensures.written ∙ ap (gave (encode_lower (take size (drop at bytes)))) c.pieces.invariant.so_far
          ∙ gave-gave _ _ _ ∙ ap (λ l. gave l ((g.P.Ports.world c.args.ports.now).at OUTPUT)) (sym (encode_lower-take at size bytes) ∙ ap (λ n. encode_lower (take n bytes)) end);
      others = touches_more _ _ _ _ c.pieces.invariant.others c.write_piece.ensures.others;
    }

pub returns-in_err-write_piece-clause-others : goal.returns-in_err-write_piece-clause-others
returns-in_err-write_piece-clause-others g c = touches_more _ _ _ _ c.pieces.invariant.others c.in_err-write_piece.ensures.others

pub returns-clause-others : goal.returns-clause-others
returns-clause-others g c = c.pieces.invariant.others
