-- The equations that a polynomial with given zeros meets (Guruswami and Sudan 1999).
use Rattle.std.specs.Prelude.{◌≡◌, ℕ, ◌+◌, ◌-◌, ◌<◌, List, length, All, Contains}
use Rattle.gf256.specs.Field.{◌⊗◌, power}
use Rattle.bi_poly.specs.Hasse.{binomial_parity}
use Rattle.interpolation.specs.Monomials.{conditions}
use Rattle.gs_interpolate.specs.declared.condition.Condition.{Condition}

-- the Hasse derivative of the condition's order, at its point, of x ^ i * y ^ j
unfoldable pub derivative_of : Condition → ℕ → ℕ → ℕ
derivative_of c i j = binomial_parity i c.u ⊗ binomial_parity j c.v ⊗ (power c.a (i - c.u) ⊗ power c.b (j - c.v))

-- cs are the conditions that together are zeros of multiplicity m at each of the points, and no more
pub record AreConditions (points : List (ℕ × ℕ)) (m : ℕ) (cs : List Condition) : Type 0 where
  pub count : length cs ≡ conditions (length points) m
  pub each : All (λ p. (u v : ℕ) → u + v < m → Contains cs (record { u = u; v = v; a = p.0; b = p.1 })) points
