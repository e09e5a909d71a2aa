-- Polynomials side by side about another point.
use Rattle.std.specs.Prelude.{◌≡◌, ◌⊎◌, ℕ, ◌+◌, ◌*◌, ◌<◌, ◌≤◌, List, length, slice_index}
use Rattle.gf256.specs.Field.{◌⊕◌, ◌⊗◌, power}
use Rattle.gf256.specs.Sums.{sum_to}
use Rattle.uni_poly.specs.Taylor.{taylor}

-- the sum of what stands in a row at place k, n places further, 2 * n places further and so on, each times one power more of a factor
abbrev pub folded : ℕ → ℕ → List ℕ → ℕ → ℕ
folded n factor row k = sum_to (λ b. power factor b ⊗ slice_index row (b * n + k)) (length row)

-- the first so many sums became what they were times a factor, plus the bytes of a row, and the others stayed
pub record AreRaised (factor : ℕ) (row now before : List ℕ) (to : ℕ) : Type 0 where
  pub size : length now ≡ length before
  pub done : (k : ℕ) → k < to → slice_index now k ≡ slice_index row k ⊕ factor ⊗ slice_index before k
  pub rest : (k : ℕ) → to ≤ k → slice_index now k ≡ slice_index before k

-- the sums are a row folded to their length
abbrev pub AreFolded : ℕ → List ℕ → List ℕ → Type 0
AreFolded factor row sums = (k : ℕ) → k < length sums → slice_index sums k ≡ folded (length sums) factor row k

-- so many values, times a factor, were added to those at place `at` of pieces as long, and the rest stayed
pub record IsPieceAdded (factor at : ℕ) (values now before : List ℕ) : Type 0 where
  pub size : length now ≡ length before
  pub here : (k : ℕ) → k < length values → slice_index now (at * length values + k)
      ≡ slice_index before (at * length values + k) ⊕ factor ⊗ slice_index values k
  pub others : (k : ℕ) → (k < at * length values) ⊎ (at * length values + length values ≤ k)
      → slice_index now k ≡ slice_index before k

-- of so many pairs of pieces of n bytes, to each first one its second was added, times a factor, and the rest stayed
pub record AreHalvesAdded (factor n pairs : ℕ) (now before : List ℕ) : Type 0 where
  pub size : length now ≡ length before
  pub first : (p k : ℕ) → p < pairs → k < n → slice_index now (p * (n + n) + k)
      ≡ slice_index before (p * (n + n) + k) ⊕ factor ⊗ slice_index before (p * (n + n) + (n + k))
  pub second : (p k : ℕ) → p < pairs → k < n
      → slice_index now (p * (n + n) + (n + k)) ≡ slice_index before (p * (n + n) + (n + k))
  pub rest : (k : ℕ) → pairs * (n + n) ≤ k → slice_index now k ≡ slice_index before k

-- the first m coefficients about a of the polynomials f 0, .., f (n - 1), side by side
abbrev pub AreExpanded : ℕ → ℕ → ℕ → List ℕ → (ℕ → List ℕ) → Type 0
AreExpanded n m a made f = (u g : ℕ) → u < m → g < n → slice_index made (u * n + g) ≡ taylor (f g) a u
