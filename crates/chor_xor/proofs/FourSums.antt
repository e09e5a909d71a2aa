-- Four rows that are added to a list at once.
use Rattle.std.proofs.Common.{◌≡◌, ℕ, ◌≤◌, List, length, get_or, bit_xor, refl, ap₂, ◌∙◌, arith}
use Rattle.std.proofs.lemmas.List.{get_or_past}
use Rattle.gf256.specs.Field.{◌⊕◌}
use Rattle.gf256.proofs.Xor.{add_zero}

-- place k of the sum of four rows
unfoldable pub four_at : List ℕ → List ℕ → List ℕ → List ℕ → ℕ → ℕ
four_at a b c d k = get_or a k 0 ⊕ get_or b k 0 ⊕ get_or c k 0 ⊕ get_or d k 0

-- past their ends
pub four-past : (a b c d : List ℕ) (n : ℕ) → length a ≡ n → length b ≡ n → length c ≡ n → length d ≡ n → (k : ℕ) → n ≤ k → four_at a b c d k ≡ 0
unfolding four_at
four-past a b c d n ea eb ec ed k l =
    ap₂ ◌⊕◌ (ap₂ ◌⊕◌ (ap₂ ◌⊕◌ (get_or_past a k 0 (omega arith)) (get_or_past b k 0 (omega arith))) (get_or_past c k 0 (omega arith))) (get_or_past d k 0 (omega arith))
    ∙ (let e : 0 ⊕ 0 ⊕ 0 ⊕ 0 ≡ 0 = simp add_zero in e)

-- as the code adds them
pub four-place : (a b c d : List ℕ) (k : ℕ) → bit_xor (bit_xor (bit_xor (get_or a k 0) (get_or b k 0)) (get_or c k 0)) (get_or d k 0) ≡ four_at a b c d k
unfolding ◌⊕◌ four_at
four-place a b c d k = refl
