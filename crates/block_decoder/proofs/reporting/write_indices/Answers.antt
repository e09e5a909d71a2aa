use Rattle.std.proofs.Common.{◌∙◌, ap, sym, ◌++◌, take}
use Rattle.std.specs.Prelude.{flat_map}
use Rattle.std.proofs.lemmas.Result.{err_from_is_err_and}
use Rattle.port_trait.specs.Number.{OUTPUT}
use Rattle.port_trait.specs.Moves.{gave}
use Rattle.port_trait.proofs.Cells.{gave-gave, touches_more}
use Rattle.port_trait.proofs.Pieces.{written_cut}
use Rattle.block_decoder.specs.Text.{number_word}
use Rattle.block_decoder.proofs.TextLines.{flat_map-take_more, flat_map-pieces}
use Rattle.block_decoder.proofs.reporting.write_indices.Goals as goal

pub loop-index-preserved : goal.loop-index-preserved
loop-index-preserved g c =
    let item = ap number_word c.from.ensures in
    let more = flat_map-take_more number_word c.args.indices.now c.loop-index.index-index 0 c.loop-index-test.true in
    record {
      so_far = c.in_ok-write_number.ensures.written ∙ ap (gave _) c.loop-index.invariant.so_far ∙ gave-gave _ _ _
          ∙ ap (λ l. gave (flat_map number_word (take c.loop-index.index-index c.args.indices.now) ++ l) ((g.P.Ports.world c.args.ports.now).at OUTPUT)) item
          ∙ ap (λ l. gave l ((g.P.Ports.world c.args.ports.now).at OUTPUT)) (sym more);
      others = touches_more _ _ _ _ c.loop-index.invariant.others c.write_number.ensures.others;
    }

pub returns-in_err-write_number-clause-written : goal.returns-in_err-write_number-clause-written
returns-in_err-write_number-clause-written g c =
    let item = ap number_word c.from.ensures in
    let whole = flat_map-pieces number_word c.args.indices.now c.loop-index.index-index 0 c.loop-index-test.true in
    let p = err_from_is_err_and c.from_residual.result c.from_residual.ensures.1 in
    rw (p.1, whole, ← item) (written_cut 1 _ _ _ _ _ _ c.loop-index.invariant.so_far c.in_err-write_number.ensures.written)

pub returns-in_err-write_number-clause-others : goal.returns-in_err-write_number-clause-others
returns-in_err-write_number-clause-others g c = touches_more _ _ _ _ c.loop-index.invariant.others c.in_err-write_number.ensures.others

pub returns-clause-others : goal.returns-clause-others
returns-clause-others g c = c.loop-index.invariant.others
