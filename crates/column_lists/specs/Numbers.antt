-- The numbers of a list decoding, for k points of which h agree with polynomials of degree at most t (Guruswami and Sudan
-- 1999).
use Rattle.std.specs.Prelude.{ℕ, ◌+◌, ◌-◌, ◌*◌, ◌/◌}
use Rattle.interpolation.specs.Monomials.{conditions}

-- the multiplicity with which the interpolated polynomial is 0 at each point, where h * h is more than k * t
unfoldable pub mult : ℕ → ℕ → ℕ → ℕ
mult k t h = t * (k - h) / (h * h - k * t) + 1

-- how many equations that is: k * m * (m + 1) / 2, where m is the multiplicity
abbrev pub cost : ℕ → ℕ → ℕ → ℕ
cost k t h = conditions k (mult k t h)

-- the greatest weighted degree of that polynomial: one less than h times the multiplicity
abbrev pub degree_of : ℕ → ℕ → ℕ → ℕ
degree_of k t h = h * mult k t h - 1
