use Rattle.bi_poly.proofs.Peeling.{zero_from_shifted}
use Rattle.bi_poly.proofs.laws.shift_is_zero_only_of_zero.Goals as goal

pub returns : goal.returns
returns c = zero_from_shifted c.args.q.now c.args.shifted.now c.args.gamma c.coefficients_are_bytes.ensures c.requires
