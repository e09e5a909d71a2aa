use Rattle.std.proofs.Common.{◌∙◌, List, ℕ, ◌++◌, take, sym, ap, append_assoc}
use Rattle.std.specs.Prelude.{Vec, flat_map}
use Rattle.std.specs.declared.alloc.Global.{Global}
use Rattle.std.proofs.lemmas.List.{take_all}
use Rattle.std.proofs.lemmas.List.Folds.{flat_map-map}
use Rattle.block_decoder.specs.Text.{block_line}
use Rattle.block_decoder.proofs.TextLines.{flat_map-take_more}
use Rattle.client_calls.proofs.text.add_blocks.Goals as goal

-- the line of the block of a vector
abbrev own_line : Vec ℕ Global → List ℕ
own_line b = block_line b.items

pub loop-block-preserved : goal.loop-block-preserved
loop-block-preserved c =
    let blocks = c.args.blocks.now in
    let i = c.loop-block.block-index in
    let old = c.args.lines.now.items in
    let line = block_line c.deref.result.now in
    let so_far = flat_map own_line (take i blocks) in
    let item = ap block_line (c.deref.ensures.value ∙ ap (λ (b : Vec ℕ Global). b.items) c.block-item.is) in
    let more = flat_map-take_more own_line blocks i c.block-item.result c.loop-block-test.true in
    c.in_ok-add_block.ensures ∙ ap (λ (l : List ℕ). l ++ line) c.loop-block.invariant ∙ append_assoc old so_far line
    ∙ ap (λ (l : List ℕ). old ++ (so_far ++ l)) item ∙ ap (λ (l : List ℕ). old ++ l) (sym more)

pub returns : goal.returns
returns c =
    let all = take_all c.loop-block.block-index c.args.blocks.now c.loop-block-test.false in
    let whole = flat_map-map block_line (λ (b : Vec ℕ Global). b.items) c.args.blocks.now in
    c.loop-block.invariant ∙ ap (λ (l : List ℕ). c.args.lines.now.items ++ l) (ap (flat_map own_line) all ∙ sym whole)
