use Rattle.std.proofs.Common.{◌≡◌, ◌<◌, ℕ, length, get_or, take}
use Rattle.gf256.specs.Polynomial.{val}
use Rattle.uni_poly.specs.Coefficients.{IsBytes}
use Rattle.uni_poly.specs.Product.{vanishing}
use Rattle.uni_poly.proofs.interpolate.Given as goal

abbrev pub invariant-loop-i : goal.invariant-loop-i
invariant-loop-i l = record {
  long : length l.made.items ≡ length l.xs;
  bytes : IsBytes l.made.items;
  basis : l.basis.items ≡ vanishing (take l.i l.xs);
  hits : (k : ℕ) → k < l.i → val l.made.items (get_or l.xs k 0) ≡ get_or l.ys k 0;
}
