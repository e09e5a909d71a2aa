-- Bytes that are all zero.
use Rattle.std.proofs.Common.{◌≡◌, ℕ, zero, suc, Bool, true, false, ◌&&◌, ◌==◌, List, [], ◌∷◌, length, replicate, refl, ap₂, true≢false, sym, eqb-true}
use Rattle.std.specs.List.{list_all}

-- both parts of a conjunction hold
pub both_hold : (a b : Bool) → (a && b) ≡ true → (a ≡ true) × (b ≡ true)
both_hold true b h = (refl, h)
both_hold false b h = absurd (true≢false (sym h))

-- bytes that are each zero are so many zeros
pub zeros_alone : (bs : List ℕ) → list_all (λ b. b == 0) bs ≡ true → bs ≡ replicate (length bs) 0
zeros_alone [] h = refl
zeros_alone (b ∷ bs) h =
    let both = both_hold (b == 0) (list_all (λ b. b == 0) bs) h in
    ap₂ (λ x xs. x ∷ xs) (eqb-true b 0 both.0) (zeros_alone bs both.1)

-- of so many zeros each is zero
pub zeros_each : (n : ℕ) → list_all (λ b. b == 0) (replicate n 0) ≡ true
zeros_each zero = refl
zeros_each (suc n) = zeros_each n
