use Rattle.uni_poly.proofs.Coefficients.{bytes_from_get_or}
use Rattle.uni_poly.proofs.VanishingPolynomial.{Contains-from_root, root_from_Contains}
use Rattle.uni_poly.proofs.laws.vanishing_roots_are_the_members.Goals as goal

pub returns : goal.returns
returns c = (
  Contains-from_root c.args.xs.now c.args.a c.ranges.a.fits (bytes_from_get_or c.args.xs.now (λ k. (c.type_inv.xs k).fits)),
  root_from_Contains c.args.xs.now c.args.a,
)
