use Rattle.shamir_share.proofs.Horner.{HasValues}
use Rattle.shamir_share.proofs.masks.four_masks.Given as goal

abbrev pub invariant-loop-e : goal.invariant-loop-e
invariant-loop-e l = HasValues l.rows l.t l.e l.products l.values
