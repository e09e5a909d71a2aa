use Rattle.std.proofs.Common.{◌∙◌, ap, sym, ◌++◌, take}
use Rattle.std.specs.Prelude.{flat_map}
use Rattle.std.proofs.lemmas.Result.{err_from_is_err_and}
use Rattle.port_trait.specs.Number.{OUTPUT}
use Rattle.port_trait.specs.Moves.{gave}
use Rattle.port_trait.proofs.Cells.{gave-gave, touches_more}
use Rattle.port_trait.proofs.Pieces.{written_cut}
use Rattle.block_decoder.specs.Text.{agree_line}
use Rattle.block_decoder.proofs.TextLines.{flat_map-take_more, flat_map-pieces}
use Rattle.block_decoder.proofs.reporting.write_agreements.Goals as goal

pub loop-agreement-preserved : goal.loop-agreement-preserved
loop-agreement-preserved g c =
    let item = ap agree_line c.agreement-item.is in
    let more = flat_map-take_more agree_line c.args.all.now c.loop-agreement.agreement-index c.agreement-item.result c.loop-agreement-test.true in
    record {
      so_far = c.in_ok-write_agreement.ensures.written ∙ ap (gave _) c.loop-agreement.invariant.so_far ∙ gave-gave _ _ _
          ∙ ap (λ l. gave (flat_map agree_line (take c.loop-agreement.agreement-index c.args.all.now) ++ l) ((g.P.Ports.world c.args.ports.now).at OUTPUT)) item
          ∙ ap (λ l. gave l ((g.P.Ports.world c.args.ports.now).at OUTPUT)) (sym more);
      others = touches_more _ _ _ _ c.loop-agreement.invariant.others c.write_agreement.ensures.others;
    }

pub returns-in_err-write_agreement-clause-written : goal.returns-in_err-write_agreement-clause-written
returns-in_err-write_agreement-clause-written g c =
    let item = ap agree_line c.agreement-item.is in
    let whole = flat_map-pieces agree_line c.args.all.now c.loop-agreement.agreement-index c.agreement-item.result c.loop-agreement-test.true in
    let p = err_from_is_err_and c.from_residual.result c.from_residual.ensures.1 in
    rw (p.1, whole, ← item) (written_cut 1 _ _ _ _ _ _ c.loop-agreement.invariant.so_far c.in_err-write_agreement.ensures.written)

pub returns-in_err-write_agreement-clause-others : goal.returns-in_err-write_agreement-clause-others
returns-in_err-write_agreement-clause-others g c = touches_more _ _ _ _ c.loop-agreement.invariant.others c.in_err-write_agreement.ensures.others

pub returns-clause-others : goal.returns-clause-others
returns-clause-others g c = c.loop-agreement.invariant.others
