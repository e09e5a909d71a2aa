-- The expansion of a polynomial about a point (Hasse 1936).
use Rattle.std.specs.Prelude.{◌≡◌, ℕ, List, [], ◌∷◌, length}
use Rattle.gf256.specs.Field.{◌⊗◌}
use Rattle.gf256.specs.Sums.{sum_to}
use Rattle.gf256.specs.Polynomial.{coef}
use Rattle.uni_poly.specs.Product.{times_linear}
use Rattle.bi_poly.specs.Rows.{cell}
use Rattle.bi_poly.specs.Hasse.{hasse}

-- the coefficient at x ^ i of (x - a) ^ u
abbrev pub linear_power : ℕ → ℕ → ℕ → ℕ
linear_power a u i = coef (times_linear (1 ∷ []) a u) i

-- the coefficient at x ^ i * y ^ j of the sum, over u below n and each row v, of hasse(u, v) times
-- (x - a) ^ u * (y - b) ^ v
abbrev pub expansion_coef : List (List ℕ) → ℕ → ℕ → ℕ → ℕ → ℕ → ℕ
expansion_coef q a b n j i =
    sum_to (λ u.
    sum_to (λ v. hasse q u v a b ⊗ linear_power b v j) (length q) ⊗ linear_power a u i) n

-- q is that sum
abbrev pub IsExpansion : List (List ℕ) → ℕ → ℕ → ℕ → Type 0
IsExpansion q a b n = (j i : ℕ) → expansion_coef q a b n j i ≡ cell q j i
