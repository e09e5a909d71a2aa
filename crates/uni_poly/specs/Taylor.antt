-- The Taylor series of a polynomial at a point: the coefficients of p(x + a). They are the Hasse
-- derivatives of p at a (Hasse 1936), which serve in characteristic 2, where the usual derivatives
-- vanish.
use Rattle.std.specs.Prelude.{◌≡◌, ℕ, zero, suc, ◌<◌, List, [], ◌∷◌}
use Rattle.gf256.specs.Field.{◌⊕◌, ◌⊗◌}

-- the coefficient at x ^ u of p(x + a), where (c + x * p)(x + a) is c + (x + a) * p(x + a)
unfoldable pub taylor : List ℕ → ℕ → ℕ → ℕ
taylor [] a u = 0
taylor (c ∷ p) a zero = c ⊗ 1 ⊕ a ⊗ taylor p a 0
taylor (c ∷ p) a (suc u) = taylor p a u ⊕ a ⊗ taylor p a (suc u)

-- p vanishes at a with multiplicity m or more: p(x + a) begins with m zeros
abbrev pub VanishesAt : List ℕ → ℕ → ℕ → Type 0
VanishesAt p a m = (u : ℕ) → u < m → taylor p a u ≡ 0
