use Rattle.std.proofs.Common.{arith}
use Rattle.std.proofs.lemmas.List.{take_rest}
use Rattle.port_trait.proofs.Cells.{gave_more, touches_more}
use Rattle.port_trait.proofs.moves.write_all.Goals as goal

pub loop-done-preserved : goal.loop-done-preserved
loop-done-preserved g c = record {
  within = omega (arith, c.in_ok-done.ensures.fits);
  so_far = gave_more _ _ _ _ _ _ _ c.loop-done.invariant.within (take_rest c.args.piece.now c.loop-done.done) c.loop-done.invariant.so_far c.in_ok-done.ensures.ok;
  others = touches_more _ _ _ _ c.loop-done.invariant.others c.give.ensures.others;
}
