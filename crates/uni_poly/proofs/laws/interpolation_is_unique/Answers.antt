use Rattle.gf256.specs.Polynomial.{coef}
use Rattle.uni_poly.proofs.Coefficients.{bytes_from_get_or}
use Rattle.uni_poly.proofs.Uniqueness.{same_polynomial}
use Rattle.uni_poly.proofs.laws.interpolation_is_unique.Goals as goal

pub returns : goal.returns
unfolding coef
returns c =
    same_polynomial c.args.p.now c.args.q.now c.args.xs.now (λ e. (c.type_inv.p e).fits) (λ e. (c.type_inv.q e).fits)
    c.requires.p_bounded c.requires.q_bounded (bytes_from_get_or c.args.xs.now (λ k. (c.type_inv.xs k).fits)) c.requires.distinct c.requires.agree
