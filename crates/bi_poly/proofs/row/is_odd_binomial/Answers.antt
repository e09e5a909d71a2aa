use Rattle.bi_poly.proofs.Binomials.{binomial_parity-bits}
use Rattle.bi_poly.proofs.row.is_odd_binomial.Goals as goal

pub returns : goal.returns
returns c = binomial_parity-bits c.args.n c.args.k
