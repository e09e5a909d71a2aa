-- Columns in which a row has what is given there.
use Rattle.std.proofs.Common.{◌≡◌, ℕ, ◌+◌, ◌-◌, ◌<◌, ◌≤◌, List, get_or, inl, inr, sym, ap, subst, ◌∙◌, arith}
use Rattle.std.specs.Simd.Lanes.{chunk}
use Rattle.std.proofs.lemmas.Bool.{cases_lt}
use Rattle.std.proofs.lemmas.Simd.{get_or-chunk}
use Rattle.gf256.specs.Rows.{AreLanes}

-- where the bytes of a row are the lanes that are given, the row has in each of their columns what is given
pub has-lanes : (n : ℕ) (row lanes : List ℕ) (g : ℕ → ℕ) (at : ℕ) → chunk at n row ≡ lanes → AreLanes n lanes g at
    → (k : ℕ) → k < n → get_or row (at + k) 0 ≡ g (at + k)
has-lanes n row lanes g at same are k l = sym (get_or-chunk at n row k 0 l) ∙ ap (λ v. get_or v k 0) same ∙ are.each k l

-- what holds of each before a place, and of n from one on that is not behind it, holds of all before the end of these
pub each-on : (P : ℕ → Type 0) (start n at : ℕ) → start ≤ at → ((k : ℕ) → k < at → P k) → ((k : ℕ) → k < n → P (start + k))
    → (k : ℕ) → k < start + n → P k
each-on P start n at low before here k l =
    elim (cases_lt k start) [
      | inl below ↦ before k (omega (arith, below, low))
      | inr high ↦
          let place : start + (k - start) ≡ k = omega (arith, high) in
          subst P place (here (k - start) (omega (arith, l, high)))
    ]
