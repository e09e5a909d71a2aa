-- Binomial coefficients.
use Rattle.std.specs.Prelude.{ℕ, zero, suc, ◌+◌}

-- the binomial coefficient of n over k, by Pascal's rule: how many choices of k of n things there
-- are
unfoldable pub binomial : ℕ → ℕ → ℕ
binomial n zero = 1
binomial zero (suc k) = 0
binomial (suc n) (suc k) = binomial n k + binomial n (suc k)
