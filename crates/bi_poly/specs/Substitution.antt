-- Substitutions for y (Roth and Ruckenstein 2000).
use Rattle.std.specs.Prelude.{◌≡◌, ℕ, zero, suc, ◌+◌, ◌<◌, ◌≤◌, List, ◌++◌, length, map, replicate, slice_index}
use Rattle.std.specs.List.{range_with_len}
use Rattle.gf256.specs.Field.{◌⊕◌}
use Rattle.gf256.specs.Sums.{sum_to}
use Rattle.gf256.specs.Polynomial.{coef}
use Rattle.uni_poly.specs.Product.{product}
use Rattle.uni_poly.specs.Taylor.{taylor}
use Rattle.bi_poly.specs.Rows.{row, cell, column}

-- p times phi ^ j: p multiplied by phi, j times
unfoldable pub times_power : List ℕ → List ℕ → ℕ → List ℕ
times_power p phi zero = p
times_power p phi (suc j) = product (times_power p phi j) phi

-- the coefficient at x ^ e of q(x, phi(x)): that of the sum over j of row j times phi ^ j
unfoldable pub at_poly_coef : List (List ℕ) → List ℕ → ℕ → ℕ
at_poly_coef q phi e = sum_to (λ j. coef (times_power (row q j) phi j) e) (length q)

-- p is q(x, phi(x))
abbrev pub IsAtPoly : List (List ℕ) → List ℕ → List ℕ → Type 0
IsAtPoly q phi p = (e : ℕ) → coef p e ≡ at_poly_coef q phi e

-- s is q(x, x * y + gamma), with as many rows as q, row j at most j longer than the longest row of
-- q. Column i of q is a polynomial in y; its coefficient at y ^ j, once y + gamma stands for y, is
-- that at x ^ (i + j) * y ^ j of s
pub record IsShiftedRoot (q : List (List ℕ)) (gamma : ℕ) (s : List (List ℕ)) : Type 0 where
  pub rows : length s ≡ length q
  pub each : (j i : ℕ) → cell s j (i + j) ≡ taylor (column q i) gamma j
  pub low : (j i : ℕ) → i < j → cell s j i ≡ 0
  pub size : (j n : ℕ) → ((k : ℕ) → length (row q k) ≤ n) → length (row s j) ≤ n + j

-- row j of q(x, x * y + gamma), where no row of q is longer than width: j zeros, and then the
-- Hasse derivatives of order j of the columns
abbrev pub shifted_row : List (List ℕ) → ℕ → ℕ → ℕ → List ℕ
shifted_row q width gamma j = replicate j 0 ++ map (λ i. taylor (column q i) gamma j) (range_with_len 0 width)

-- to each of the sums the Hasse derivative of order j at gamma of the column at its place was added
abbrev pub AreDerivativesAdded : List (List ℕ) → ℕ → ℕ → List ℕ → List ℕ → Type 0
AreDerivativesAdded q gamma j now before = (i : ℕ) → slice_index now i ≡ slice_index before i ⊕ taylor (column q i) gamma j
