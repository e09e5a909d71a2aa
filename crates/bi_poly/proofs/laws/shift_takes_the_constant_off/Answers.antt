use Rattle.bi_poly.proofs.Peeling.{peeled}
use Rattle.bi_poly.proofs.laws.shift_takes_the_constant_off.Goals as goal

pub returns : goal.returns
returns c = peeled c.args.q.now c.args.shifted.now c.args.gamma c.args.phi.now c.coefficients_are_bytes.ensures c.requires
