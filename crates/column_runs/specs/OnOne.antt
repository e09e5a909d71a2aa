-- Points that all lie on one polynomial.
use Rattle.std.specs.Prelude.{◌≡◌, ℕ, List, All}
use Rattle.gf256.specs.Polynomial.{val, IsPolynomial}

-- all points lie on one polynomial of degree at most t
abbrev pub LieOnOne : List (ℕ × ℕ) → ℕ → Type 0
LieOnOne points t = (phi : List ℕ) × IsPolynomial t phi × All (λ p. val phi p.0 ≡ p.1) points
