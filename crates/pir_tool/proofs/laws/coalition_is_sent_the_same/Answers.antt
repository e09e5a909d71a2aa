use Rattle.uni_poly.proofs.Coefficients.{bytes_from_get_or}
use Rattle.pir_tool.proofs.SameFrames.{bijection_in_shamir, same_in_shamir}
use Rattle.pir_tool.proofs.laws.coalition_is_sent_the_same.Goals as goal

pub returns-clause-bijection : goal.returns-clause-bijection
returns-clause-bijection c =
    bijection_in_shamir c.args.plan.now c.requires.scheme c.args.coalition.now c.args.blocks.now c.args.others.now c.requires.as_many
    (bytes_from_get_or c.args.coalition.now (λ k. (c.type_inv.coalition k).fits)) c.requires.nonzero

pub returns-clause-same : goal.returns-clause-same
returns-clause-same c =
    same_in_shamir c.args.plan.now c.requires.scheme c.args.coalition.now c.args.blocks.now c.args.others.now c.requires.as_many
    (bytes_from_get_or c.args.coalition.now (λ k. (c.type_inv.coalition k).fits)) c.requires.nonzero c.requires.bound
