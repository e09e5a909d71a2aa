use Rattle.std.proofs.Common.{refl, arith}
use Rattle.gf256.specs.Field.{◌⊕◌}
use Rattle.xor_answers.specs.Waiting.{four_sum}
use Rattle.xor_answers.proofs.WaitingSums.{put-more}
use Rattle.xor_answers.proofs.gather.put_eight.Goals as goal

pub loop-i-preserved : goal.loop-i-preserved
unfolding ◌⊕◌
loop-i-preserved c =
    put-more c.loop-i.sum (λ k. four_sum c.args.first k ⊕ four_sum c.args.second k) c.loop-i.i _ (omega arith) refl c.loop-i.invariant

pub loop-i-init : goal.loop-i-init
loop-i-init c = λ k l. absurd (omega arith)

pub bounds-a-i : goal.bounds-a-i
bounds-a-i c = omega arith

pub bounds-b-i : goal.bounds-b-i
bounds-b-i c = omega arith

pub bounds-c-i : goal.bounds-c-i
bounds-c-i c = omega arith

pub bounds-d-i : goal.bounds-d-i
bounds-d-i c = omega arith

pub bounds-e-i : goal.bounds-e-i
bounds-e-i c = omega arith

pub bounds-f-i : goal.bounds-f-i
bounds-f-i c = omega arith

pub bounds-g-i : goal.bounds-g-i
bounds-g-i c = omega arith

pub bounds-h-i : goal.bounds-h-i
bounds-h-i c = omega arith

pub bounds-sum-i : goal.bounds-sum-i
bounds-sum-i c = omega arith

pub loop-i-smaller : goal.loop-i-smaller
loop-i-smaller c = omega arith

pub returns : goal.returns
returns c = λ k l. c.loop-i.invariant k (omega arith)
