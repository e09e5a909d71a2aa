-- Sums of products, one more at a time, and written into a row.
use Rattle.std.proofs.Common.{◌≡◌, ℕ, ◌+◌, ◌-◌, ◌<◌, ◌≤◌, List, [], length, get_or, bit_xor, inl, inr, sym, ap, ap₂, subst, ◌∙◌, arith, add-one}
use Rattle.std.specs.Simd.Lanes.{zip2, chunk, put_chunk}
use Rattle.std.proofs.lemmas.Bool.{cases_lt}
use Rattle.std.proofs.lemmas.Simd.{get_or-put_chunk_at, get_or-put_chunk_below}
use Rattle.gf256.specs.Field.{◌⊕◌, ◌⊗◌}
use Rattle.gf256.specs.Rows.{multiple, AreLanes}
use Rattle.gf256.specs.Sums.{sum_to}
use Rattle.gf256.proofs.LaneSums.{lanes-of, lanes-sum}
use Rattle.gf256.proofs.Xor.{add_zero, add_assoc}
use Rattle.column_runs.specs.Tile.{cell, with_differences, given, given_by}

-- lanes of the same values
lanes-same : {n : ℕ} (lanes : List ℕ) (g h : ℕ → ℕ) (at : ℕ) → ((c : ℕ) → g c ≡ h c) → AreLanes n lanes g at → AreLanes n lanes h at
lanes-same lanes g h at same are = record { size = are.size; each = λ k l. are.each k l ∙ same (at + k) }

module _ (first : List ℕ) (ds : List (List ℕ)) (factors : List ℕ) where
  -- no product yet
  pub given-none : (c : ℕ) → given_by first ds factors 0 c ≡ get_or first c 0
  unfolding sum_to
  given-none c = add_zero (get_or first c 0)

  -- one product more
  pub given-more : (i c : ℕ) → given_by first ds factors i c ⊕ get_or factors i 0 ⊗ cell ds c i ≡ given_by first ds factors (i + 1) c
  unfolding sum_to
  given-more i c =
      let f : ℕ → ℕ = λ j. get_or factors j 0 ⊗ cell ds c j in
      add_assoc (get_or first c 0) (sum_to f i) (f i) ∙ ap (λ n. get_or first c 0 ⊕ sum_to f n) (sym (add-one i))

  -- those with all factors
  pub given-all : (i c : ℕ) → i ≡ length factors → given_by first ds factors i c ≡ given first ds factors c
  unfolding with_differences
  given-all i c all = ap (λ n. given_by first ds factors n c) all

  -- the same in n lanes: no product yet
  pub lanes-none : (n at : ℕ) → at + n ≤ length first → AreLanes n (chunk at n first) (given_by first ds factors 0) at
  lanes-none n at room =
      lanes-same (chunk at n first) (λ c. get_or first c 0) (given_by first ds factors 0) at (λ c. sym (given-none c)) (lanes-of n first at room)

  -- one product more, with this factor and this row
  pub lanes-more : {n : ℕ} (sums products row : List ℕ) (i f at : ℕ) → f ≡ get_or factors i 0 → row ≡ get_or ds i []
      → AreLanes n sums (given_by first ds factors i) at → AreLanes n products (multiple row f) at
      → AreLanes n (zip2 bit_xor sums products) (given_by first ds factors (i + 1)) at
  lanes-more sums products row i f at is_factor is_row so_far more =
      lanes-same (zip2 bit_xor sums products) (λ c. given_by first ds factors i c ⊕ multiple row f c) (given_by first ds factors (i + 1)) at
      (λ c. ap (λ y. given_by first ds factors i c ⊕ y) (ap₂ (λ f row. f ⊗ get_or row c 0) is_factor is_row) ∙ given-more i c)
      (lanes-sum sums products (given_by first ds factors i) (multiple row f) at so_far more)

  -- those with all factors
  pub lanes-all : {n : ℕ} (sums : List ℕ) (i at : ℕ) → i ≡ length factors → AreLanes n sums (given_by first ds factors i) at
      → AreLanes n sums (given first ds factors) at
  lanes-all sums i at all = lanes-same sums (given_by first ds factors i) (given first ds factors) at (λ c. given-all i c all)

-- m places more of a row, of which some may be made before
pub made-put : {m : ℕ} (row lanes : List ℕ) (g : ℕ → ℕ) (start n : ℕ) → start ≤ n → start + m ≤ length row → AreLanes m lanes g start
    → ((k : ℕ) → k < n → get_or row k 0 ≡ g k)
    → (k : ℕ) → k < start + m → get_or (put_chunk start row lanes) k 0 ≡ g k
made-put row lanes g start n low room are made k l =
    elim (cases_lt k start) [
      | inl below ↦ get_or-put_chunk_below start row lanes k 0 below ∙ made k (omega (arith, below, low))
      | inr at ↦
          let place : start + (k - start) ≡ k = omega (arith, at) in
          let size = are.size in
          subst (λ p. get_or (put_chunk start row lanes) p 0 ≡ g p) place
          (get_or-put_chunk_at start row lanes (k - start) 0 (omega (arith, l, at, size)) (omega (arith, room, size))
          ∙ are.each (k - start) (omega (arith, l, at)))
    ]
