use Rattle.gf256.specs.Polynomial.{coef}
use Rattle.uni_poly.proofs.Factors.{HasFactor-from_zero, VanishesAt-from_factor}
use Rattle.uni_poly.proofs.laws.multiplicity_counts_factors.Goals as goal

pub returns : goal.returns
unfolding coef
returns c = (
  HasFactor-from_zero c.args.m c.args.a c.args.p.now (λ e. (c.type_inv.p e).fits),
  VanishesAt-from_factor c.args.m c.args.a c.args.p.now,
)
