use Rattle.pir_tool.proofs.SameFrames.{bijection_in_xor, same_in_xor}
use Rattle.pir_tool.proofs.laws.all_but_one_are_sent_the_same.Goals as goal

pub returns-clause-bijection : goal.returns-clause-bijection
returns-clause-bijection c = bijection_in_xor c.args.plan.now c.requires.scheme c.args.left_out c.args.blocks.now c.args.others.now c.requires.as_many

pub returns-clause-same : goal.returns-clause-same
returns-clause-same c =
    same_in_xor c.args.plan.now c.requires.scheme c.args.left_out c.args.blocks.now c.args.others.now c.requires.as_many
    c.requires.blocks c.requires.other_blocks c.requires.first c.requires.last
