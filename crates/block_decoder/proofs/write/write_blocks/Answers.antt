use Rattle.std.proofs.Common.{◌∙◌, ap, sym, ℕ, ◌++◌, take}
use Rattle.std.specs.Prelude.{flat_map, Vec}
use Rattle.std.specs.declared.alloc.Global.{Global}
use Rattle.std.proofs.lemmas.List.{take_all}
use Rattle.std.proofs.lemmas.List.Folds.{flat_map-map}
use Rattle.std.proofs.lemmas.Result.{err_from_is_err_and}
use Rattle.port_trait.specs.Number.{OUTPUT}
use Rattle.port_trait.specs.Moves.{gave}
use Rattle.port_trait.proofs.Cells.{gave-gave, touches_more}
use Rattle.port_trait.proofs.Pieces.{written_cut}
use Rattle.block_decoder.specs.Text.{block_line}
use Rattle.block_decoder.proofs.TextLines.{flat_map-take_more, flat_map-pieces}
use Rattle.block_decoder.proofs.write.write_blocks.Goals as goal

pub loop-block-preserved : goal.loop-block-preserved
loop-block-preserved g c =
    let item = ap block_line (c.deref.ensures.value ∙ ap (λ (b : Vec ℕ Global). b.items) c.block-item.is) in
    let more = flat_map-take_more (λ (b : Vec ℕ Global). block_line b.items) c.args.blocks.now c.loop-block.block-index c.block-item.result c.loop-block-test.true in
    record {
      so_far = c.in_ok-write_block.ensures.written ∙ ap (gave _) c.loop-block.invariant.so_far ∙ gave-gave _ _ _
          ∙ ap (λ l. gave (flat_map (λ (b : Vec ℕ Global). block_line b.items) (take c.loop-block.block-index c.args.blocks.now) ++ l) ((g.P.Ports.world c.args.ports.now).at OUTPUT)) item
          ∙ ap (λ l. gave l ((g.P.Ports.world c.args.ports.now).at OUTPUT)) (sym more);
      others = touches_more _ _ _ _ c.loop-block.invariant.others c.write_block.ensures.others;
    }

pub returns-in_err-write_block-clause-written : goal.returns-in_err-write_block-clause-written
returns-in_err-write_block-clause-written g c =
    let item = ap block_line (c.deref.ensures.value ∙ ap (λ (b : Vec ℕ Global). b.items) c.block-item.is) in
    let whole = flat_map-map block_line (λ (b : Vec ℕ Global). b.items) c.args.blocks.now
    ∙ flat_map-pieces (λ (b : Vec ℕ Global). block_line b.items) c.args.blocks.now c.loop-block.block-index c.block-item.result c.loop-block-test.true in
    let p = err_from_is_err_and c.from_residual.result c.from_residual.ensures.1 in
    rw (p.1, whole, ← item) (written_cut 1 _ _ _ _ _ _ c.loop-block.invariant.so_far c.in_err-write_block.ensures.written)

pub returns-clause-written : goal.returns-clause-written
returns-clause-written g c =
    let all = take_all c.loop-block.block-index c.args.blocks.now c.loop-block-test.false in
    let whole = flat_map-map block_line (λ (b : Vec ℕ Global). b.items) c.args.blocks.now in
    c.loop-block.invariant.so_far ∙ ap (λ l. gave l ((g.P.Ports.world c.args.ports.now).at OUTPUT)) (ap (flat_map (λ (b : Vec ℕ Global). block_line b.items)) all ∙ sym whole)

pub returns-in_err-write_block-clause-others : goal.returns-in_err-write_block-clause-others
returns-in_err-write_block-clause-others g c = touches_more _ _ _ _ c.loop-block.invariant.others c.in_err-write_block.ensures.others

pub returns-clause-others : goal.returns-clause-others
returns-clause-others g c = c.loop-block.invariant.others
