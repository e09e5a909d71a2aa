use Rattle.interpolation.proofs.Counting.{pairs, are_pairs, length-pairs}
use Rattle.interpolation.proofs.laws.monomials_are_pairs.Goals as goal

pub returns : goal.returns
returns c = (pairs c.args.t c.args.d, are_pairs c.args.t c.args.d c.requires, length-pairs c.args.t c.args.d)
