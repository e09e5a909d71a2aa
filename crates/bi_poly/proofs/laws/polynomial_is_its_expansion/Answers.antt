use Rattle.bi_poly.proofs.Expansion.{expansion2}
use Rattle.bi_poly.proofs.laws.polynomial_is_its_expansion.Goals as goal

pub returns : goal.returns
returns c = λ n l j i. expansion2 c.args.q.now c.args.a c.args.b n j i l (c.coefficients_are_bytes.ensures j i)
