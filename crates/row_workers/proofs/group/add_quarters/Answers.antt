use Rattle.std.proofs.Common.{◌≡◌, ◌+◌, ◌*◌, ◌∙◌, slice_index, sym, ap, arith}
use Rattle.gf256.specs.Field.{◌⊕◌}
use Rattle.gf256.specs.Sums.{run_sum}
use Rattle.gf256.proofs.Xor.{add_zero}
use Rattle.row_workers.specs.Group.{block_gives}
use Rattle.row_workers.proofs.BlockSums.{quarters, quarters-none, quarters-all, four-more}
use Rattle.row_workers.proofs.group.add_quarters.Goals as goal

pub loop-i-init : goal.loop-i-init
loop-i-init g c = λ p l.
    let f = block_gives g.row.N g.S.GroupSums.gives c.args.group p in
    let sum = slice_index c.args.sums.now p in
    sym (ap (◌⊕◌ sum) (quarters-none f c.args.from c.args.quarter) ∙ add_zero sum)

pub loop-i-preserved : goal.loop-i-preserved
loop-i-preserved g c = λ p l.
    four-more (block_gives g.row.N g.S.GroupSums.gives c.args.group p) _ _ (slice_index c.args.sums.now p) c.args.from c.args.quarter c.loop-i.i
    (c.loop-i.invariant p l) (c.add_four.ensures p (omega (arith, l, c.loop-i.auto.sums)))

pub returns : goal.returns
returns g c = λ p l.
    let f = block_gives g.row.N g.S.GroupSums.gives c.args.group p in
    let from = c.args.from in
    let quarter = c.args.quarter in
    let end : c.loop-i.i ≡ quarter = omega arith in
    let all : quarters f from quarter c.loop-i.i ≡ run_sum f from (from + 4 * quarter) = ap (quarters f from quarter) end ∙ quarters-all f from quarter in
    c.loop-i.invariant p l ∙ ap (◌⊕◌ (slice_index c.args.sums.now p)) all

pub overflow_add-from : goal.overflow_add-from
overflow_add-from g c = omega arith

pub add_four-requires-clause-lanes : goal.add_four-requires-clause-lanes
add_four-requires-clause-lanes g c = c.requires.lanes

pub add_four-requires-clause-some : goal.add_four-requires-clause-some
add_four-requires-clause-some g c = c.requires.some

pub add_four-requires-clause-few : goal.add_four-requires-clause-few
add_four-requires-clause-few g c = c.requires.few

pub add_four-requires-clause-wide : goal.add_four-requires-clause-wide
add_four-requires-clause-wide g c = c.requires.wide

pub add_four-requires-clause-within : goal.add_four-requires-clause-within
add_four-requires-clause-within g c = omega arith

pub add_four-requires-clause-queries : goal.add_four-requires-clause-queries
add_four-requires-clause-queries g c = c.requires.queries

pub add_four-requires-clause-room : goal.add_four-requires-clause-room
add_four-requires-clause-room g c = omega arith

pub add_four-requires-clause-blocks : goal.add_four-requires-clause-blocks
add_four-requires-clause-blocks g c = c.loop-i.auto.sums ∙ c.requires.room
