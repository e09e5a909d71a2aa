use Rattle.std.proofs.Common.{◌≡◌, ℕ, ◌<◌}
use Rattle.gf256.specs.Polynomial.{val}
use Rattle.bi_poly.specs.Rows.{column}
use Rattle.bi_poly.proofs.BiPoly.vanishes_at.Given as goal

abbrev pub invariant-loop-i : goal.invariant-loop-i
invariant-loop-i l = (e : ℕ) → e < l.i → val (column l.self e) l.gamma ≡ 0
