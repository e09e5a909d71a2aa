use Rattle.gf256.specs.Polynomial.{coef}
use Rattle.bi_poly.proofs.laws.row_has_bytes.Goals as goal

pub returns : goal.returns
unfolding coef
returns c = λ e. (c.type_inv.p e).fits
