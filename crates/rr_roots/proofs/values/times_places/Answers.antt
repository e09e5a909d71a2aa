use Rattle.std.proofs.Common.{refl, ◌∙◌, arith}
use Rattle.rr_roots.proofs.values.times_places.Goals as goal

pub loop-block-init : goal.loop-block-init
loop-block-init c = record { size = refl; done = λ k l. absurd (omega (arith, l)); rest = λ k l. refl }

pub loop-block-preserved : goal.loop-block-preserved
loop-block-preserved c = c.times_block.ensures c.args.row.now c.loop-block.invariant

pub times_block-requires-clause-size : goal.times_block-requires-clause-size
times_block-requires-clause-size c = c.loop-block.invariant.size ∙ c.requires

pub returns : goal.returns
returns c = λ g l. c.loop-block.invariant.done g (omega (arith, l, c.loop-block-test.false))
