-- Lists of coefficients: their bytes, their degrees, and when they are equal.
use Rattle.std.proofs.Common.{◌≡◌, ℕ, zero, suc, ◌<◌, ◌≤◌, List, length, replicate, get_or, All, arith, inl, inr, lit<, ext_get_or}
use Rattle.std.proofs.lemmas.List.{get_or_past}
use Rattle.std.proofs.lemmas.List.Elements.{All-from_get_or}
use Rattle.std.proofs.lemmas.Bool.{cases_lt}
use Rattle.gf256.specs.Polynomial.{coef}
use Rattle.uni_poly.specs.Coefficients.{IsBytes, IsSame, HasDegreeBelow}

-- the degree is below the length
pub HasDegreeBelow-length : (p : List ℕ) (n : ℕ) → length p ≤ n → HasDegreeBelow p n
unfolding coef
HasDegreeBelow-length p n h e l = get_or_past p e 0 (omega arith)

-- two lists of one length that are the same polynomial are equal
pub list_from_same : (p q : List ℕ) → length p ≡ length q → IsSame p q → p ≡ q
unfolding coef
list_from_same p q e h = ext_get_or 0 p q e (λ i l. h i)

-- each element of a list from which bytes are read is a byte
pub bytes_from_get_or : (xs : List ℕ) → ((k : ℕ) → get_or xs k 0 < 256) → All (λ x. x < 256) xs
bytes_from_get_or xs h = All-from_get_or (λ x. x < 256) xs 0 (λ k l. h k)

-- each coefficient of a list of bytes is one
pub IsBytes-from_all : (p : List ℕ) → All (λ c. c < 256) p → IsBytes p
unfolding coef
IsBytes-from_all p h e =
    elim (cases_lt e (length p)) [
      | inl l ↦ h e 0 l
      | inr l ↦ rw (get_or_past p e 0 l) (lit< tt)
    ]

-- a list of zeros is one of bytes
pub IsBytes-zeros : (n : ℕ) → IsBytes (replicate n 0)
unfolding coef
IsBytes-zeros zero e = lit< tt
IsBytes-zeros (suc n) zero = lit< tt
IsBytes-zeros (suc n) (suc e) = IsBytes-zeros n e
