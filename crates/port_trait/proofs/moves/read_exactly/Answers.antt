use Rattle.std.proofs.Common.{rules, arith}
use Rattle.std.proofs.lemmas.List.{take_rest}
use Rattle.port_trait.proofs.Cells.{hands_more, touches_more, ends, fails_short}
use Rattle.port_trait.proofs.moves.read_exactly.Goals as goal

pub returns-then-n-eq0-clause-filled : goal.returns-then-n-eq0-clause-filled
returns-then-n-eq0-clause-filled g c =
    let so_far = c.loop-filled.invariant.so_far in
    ends _ _ _ _ _ _ _ _ _ _ (search rules) (take_rest c.loop-filled.into c.loop-filled.filled) so_far c.in-Ok.ensures.ok (omega arith) c.if-n-eq0.true (c.in-Ok.ensures.end c.if-n-eq0.true)

pub loop-filled-preserved : goal.loop-filled-preserved
loop-filled-preserved g c = record {
  so_far = hands_more _ _ _ _ _ _ _ _ _ _ (search rules) (take_rest c.loop-filled.into c.loop-filled.filled) c.loop-filled.invariant.so_far c.in-Ok.ensures.ok;
  others = touches_more _ _ _ _ c.loop-filled.invariant.others c.take.ensures.others;
}

pub returns-in-Err-clause-filled : goal.returns-in-Err-clause-filled
returns-in-Err-clause-filled g c = fails_short _ _ _ _ _ _ _ _ c.loop-filled.invariant.so_far c.in-Err.ensures.failed (omega arith)
