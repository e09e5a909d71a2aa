use Rattle.std.proofs.Common.{arith}
use Rattle.chor_xor.proofs.ChosenSums.{answers-columns, answers-combined}
use Rattle.chor_xor.proofs.laws.answers_sum_to_the_block.Goals as goal

pub returns : goal.returns
returns c = record {
  columns = λ m is. answers-columns m c.args.coins.now c.args.n c.args.r c.args.block (omega (arith, c.requires.servers)) c.requires.block is;
  list = λ m is. answers-combined m c.args.coins.now c.args.n c.args.r c.args.block (omega (arith, c.requires.servers)) c.requires.block is;
}
