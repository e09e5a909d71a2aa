use Rattle.gf256.specs.Polynomial.{coef}
use Rattle.uni_poly.proofs.Factors.{HasFactor-from_zero}
use Rattle.bi_poly.proofs.Zeros.{VanishesAt-from_zero}
use Rattle.bi_poly.proofs.laws.zero_gives_a_factor.Goals as goal

pub returns : goal.returns
unfolding coef
returns c =
    HasFactor-from_zero c.args.m c.args.a c.args.composed.now (λ e. (c.type_inv.composed e).fits)
    (VanishesAt-from_zero c.args.q.now c.args.phi.now c.args.composed.now c.args.a c.args.m c.requires.zero c.requires.composed)
