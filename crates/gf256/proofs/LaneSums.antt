-- Lanes that are taken from rows, added and multiplied.
use Rattle.std.proofs.Common.{◌≡◌, ℕ, ◌+◌, ◌≤◌, List, length, get_or, map, bit_xor, sym, ap, ap₂, ◌∙◌, arith}
use Rattle.std.specs.Simd.Lanes.{zip2, chunk, put_chunk}
use Rattle.std.proofs.lemmas.List.{length-map, get_or-map}
use Rattle.std.proofs.lemmas.Simd.{length-chunk, length-zip2, get_or-chunk, get_or-zip2}
use Rattle.gf256.specs.Field.{◌⊕◌, ◌⊗◌}
use Rattle.gf256.specs.Rows.{IsAdded, AreLanes}
use Rattle.gf256.proofs.Added.{added-lanes}

-- those of a row
pub lanes-of : (n : ℕ) (row : List ℕ) (at : ℕ) → at + n ≤ length row → AreLanes n (chunk at n row) (λ k. get_or row k 0) at
lanes-of n row at room = record {
  size = length-chunk at n row room;
  each = λ k l. get_or-chunk at n row k 0 l;
}

-- the sum of two
pub lanes-sum : {n : ℕ} (xs ys : List ℕ) (g h : ℕ → ℕ) (at : ℕ) → AreLanes n xs g at → AreLanes n ys h at
    → AreLanes n (zip2 bit_xor xs ys) (λ k. g k ⊕ h k) at
unfolding ◌⊕◌
lanes-sum xs ys g h at a b = record {
  size = length-zip2 bit_xor xs ys (a.size ∙ sym b.size) ∙ a.size;
  each = λ k l.
      get_or-zip2 bit_xor xs ys k 0 0 0 (omega (arith, a.size, l)) (omega (arith, b.size, l))
      ∙ ap₂ bit_xor (a.each k l) (b.each k l);
}

-- the products with one factor
pub lanes-times : {n : ℕ} (xs products : List ℕ) (g : ℕ → ℕ) (f at : ℕ) → products ≡ map (λ x. f ⊗ x) xs → AreLanes n xs g at
    → AreLanes n products (λ k. f ⊗ g k) at
lanes-times xs products g f at e a = record {
  size = ap length e ∙ length-map xs (λ x. f ⊗ x) ∙ a.size;
  each = λ k l.
      ap (λ ps. get_or ps k 0) e ∙ get_or-map (λ x. f ⊗ x) xs k 0 0 (omega (arith, a.size, l)) ∙ ap (λ x. f ⊗ x) (a.each k l);
}

-- lanes added to those that stand in the places from `start` on, of which some may be done; `base`
-- is what was read there
pub lanes-put : (m : ℕ) (acc old base lanes : List ℕ) (g : ℕ → ℕ) (from start n : ℕ)
    → from ≤ start → start + m ≤ length acc → length base ≡ length acc → start ≤ n → n ≤ start + m
    → ((k : ℕ) → start ≤ k → get_or base k 0 ≡ get_or old k 0) → AreLanes m lanes g start → IsAdded acc old g from n
    → IsAdded (put_chunk start acc (zip2 bit_xor (chunk start m base) lanes)) old g from (start + m)
lanes-put m acc old base lanes g from start n first room same low high read are done =
    let within : start + m ≤ length base = omega arith in
    added-lanes acc old _ g _ from start n room (lanes-sum _ lanes _ _ start (lanes-of m base start within) are) (omega arith) low high
    (λ k l i. absurd (omega (arith, i, l, first)))
    (λ k l i j. ap (λ x. x ⊕ g k) (read k l))
    done
