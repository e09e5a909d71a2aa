-- Hasse derivatives (Hasse 1936), which serve in characteristic 2, where the usual derivatives
-- vanish, and zeros with their multiplicities (Guruswami and Sudan 1999).
use Rattle.std.specs.Prelude.{◌≡◌, ℕ, ◌+◌, ◌-◌, ◌%◌, ◌<◌, List, length}
use Rattle.gf256.specs.Field.{◌⊗◌, power}
use Rattle.gf256.specs.Sums.{sum_to}
use Rattle.gf256.specs.Polynomial.{coef}
use Rattle.uni_poly.specs.Binomial.{binomial}
use Rattle.bi_poly.specs.Rows.{row, cell}

-- 1 where the binomial coefficient of n over k is odd, else 0
unfoldable pub binomial_parity : ℕ → ℕ → ℕ
binomial_parity n k = binomial n k % 2

-- the Hasse derivative of order u of a polynomial in one variable at a: the sum over i of
-- C(i, u) * p_i * a^(i - u), with the binomials modulo 2, which are 0 where i < u
unfoldable pub derivative : List ℕ → ℕ → ℕ → ℕ
derivative p a u = sum_to (λ i. binomial_parity i u ⊗ (coef p i ⊗ power a (i - u))) (length p)

-- the Hasse derivative of order (u, v) at (a, b): the sum over i and j of
-- C(i, u) * C(j, v) * q_ij * a^(i - u) * b^(j - v) with the binomials modulo 2, which are 0 where
-- i < u or j < v
unfoldable pub hasse : List (List ℕ) → ℕ → ℕ → ℕ → ℕ → ℕ
hasse q u v a b =
    sum_to (λ j.
    sum_to (λ i. binomial_parity i u ⊗ binomial_parity j v ⊗ cell q j i ⊗ power a (i - u) ⊗ power b (j - v))
    (length (row q j)))
    (length q)

-- q has a zero of multiplicity m or more at (a, b)
abbrev pub HasZero : List (List ℕ) → ℕ → ℕ → ℕ → Type 0
HasZero q a b m = (u v : ℕ) → u + v < m → hasse q u v a b ≡ 0
