use Rattle.uni_poly.proofs.Coefficients.{bytes_from_get_or}
use Rattle.pir_tool.proofs.SameLookUps.{same_in_each}
use Rattle.pir_tool.proofs.laws.coalition_is_sent_the_same_in_each_fetch.Goals as goal

pub returns : goal.returns
returns c = λ rounds as_many coins k d l.
    same_in_each c.args.plan.now c.requires.scheme c.args.coalition.now
    (bytes_from_get_or c.args.coalition.now (λ i. (c.type_inv.coalition i).fits)) c.requires.nonzero c.requires.bound
    c.args.others.now rounds as_many coins k d l
