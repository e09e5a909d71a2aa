-- How many monomials there are of a weighted degree, and how many conditions zeros are (Guruswami and Sudan 1999).
use Rattle.std.specs.Prelude.{◌≢◌, ℕ, zero, suc, ◌+◌, ◌-◌, ◌*◌, ◌/◌, ◌≤◌, List, All, AllPairs, Contains}

-- how many pairs (i, j) with j < rows have i + t * j < n, row by row: n of them have j = 0, and those with a greater j are
-- as many as the pairs with i + t * j < n - t in one row less
unfoldable pub monomials_below : ℕ → ℕ → ℕ → ℕ
monomials_below zero t n = 0
monomials_below (suc rows) t n = n + monomials_below rows t (n - t)

-- how many pairs (i, j) have i + t * j <= d, where t is at least 1: so many monomials x ^ i * y ^ j have the (1, t)-weighted
-- degree d or less
abbrev pub monomials : ℕ → ℕ → ℕ
monomials t d = monomials_below (d + 1) t (d + 1)

-- how many equations it takes to have a zero of multiplicity m at each of k points: at each point there is one for each
-- pair (u, v) with u + v < m
abbrev pub conditions : ℕ → ℕ → ℕ
conditions k m = k * m * (m + 1) / 2

-- these are the pairs (i, j) with i + t * j <= d, each once
pub record ArePairs (t d : ℕ) (pairs : List (ℕ × ℕ)) : Type 0 where
  pub within : All (λ p. p.0 + t * p.1 ≤ d) pairs
  pub all : (i j : ℕ) → i + t * j ≤ d → Contains pairs (i, j)
  pub once : AllPairs (λ p q. p ≢ q) pairs
