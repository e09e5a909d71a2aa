use Rattle.std.proofs.Common.{◌∙◌, ap, sym}
use Rattle.std.proofs.lemmas.Result.{err_from_is_err_and}
use Rattle.port_trait.specs.Number.{OUTPUT}
use Rattle.port_trait.specs.Moves.{gave}
use Rattle.port_trait.proofs.Cells.{gave-gave, touches_more}
use Rattle.port_trait.proofs.Pieces.{written_cut}
use Rattle.block_decoder.specs.Text.{number_word}
use Rattle.block_decoder.proofs.TextLines.{flat_map-take_more, flat_map-pieces}
use Rattle.block_decoder.proofs.write.write_numbers.Goals as goal

pub loop-n-preserved : goal.loop-n-preserved
loop-n-preserved g c = record {
  so_far = c.in_ok-write_number.ensures.written ∙ ap (gave _) c.loop-n.invariant.so_far ∙ gave-gave _ _ _
      ∙ ap (λ l. gave l ((g.P.Ports.world c.args.ports.now).at OUTPUT)) (sym (flat_map-take_more number_word c.args.numbers.now c.loop-n.n-index 0 c.loop-n-test.true));
  others = touches_more _ _ _ _ c.loop-n.invariant.others c.write_number.ensures.others;
}

pub returns-in_err-write_number-clause-written : goal.returns-in_err-write_number-clause-written
returns-in_err-write_number-clause-written g c =
    let whole = flat_map-pieces number_word c.args.numbers.now c.loop-n.n-index 0 c.loop-n-test.true in
    let p = err_from_is_err_and c.from_residual.result c.from_residual.ensures.1 in
    rw (p.1, whole) (written_cut 1 _ _ _ _ _ _ c.loop-n.invariant.so_far c.in_err-write_number.ensures.written)

pub returns-in_err-write_number-clause-others : goal.returns-in_err-write_number-clause-others
returns-in_err-write_number-clause-others g c = touches_more _ _ _ _ c.loop-n.invariant.others c.in_err-write_number.ensures.others

pub returns-clause-others : goal.returns-clause-others
returns-clause-others g c = c.loop-n.invariant.others
