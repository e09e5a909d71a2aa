-- Two trios that are added to a list, the second behind the first.
use Rattle.std.proofs.Common.{◌≡◌, ℕ, ◌+◌, ◌<◌, ◌≤◌, List, length, get_or, map, bit_xor, refl, sym, ap, ap₂, ◌∙◌, arith, inl, inr}
use Rattle.std.specs.Simd.Lanes.{zip2, chunk, put_chunk}
use Rattle.std.proofs.lemmas.Bool.{cases_lt}
use Rattle.std.proofs.lemmas.List.{get_or_past}
use Rattle.gf256.specs.Field.{◌⊕◌, ◌⊗◌}
use Rattle.gf256.specs.Rows.{IsAdded}
use Rattle.gf256.proofs.Xor.{add_zero}
use Rattle.gf256.proofs.FieldLaws.{mul_zero}
use Rattle.gf256.proofs.Added.{added-none}
use Rattle.gf256.proofs.LaneSums.{lanes-of, lanes-sum, lanes-times, lanes-put}
use Rattle.server_product.specs.Trios.{trio_at}
use Rattle.server_product.specs.declared.trios.Trio.{Trio}

-- three rows give nothing past their ends
pub trio-past : (trio : Trio) (n : ℕ) → length trio.a.now ≡ n → length trio.b.now ≡ n → length trio.c.now ≡ n
    → (k : ℕ) → n ≤ k → trio_at trio k ≡ 0
unfolding trio_at
trio-past trio n ea eb ec k l =
    ap (◌⊗◌ trio.factor)
    (ap₂ ◌⊕◌ (ap₂ ◌⊕◌ (get_or_past trio.a.now k 0 (omega arith)) (get_or_past trio.b.now k 0 (omega arith))) (get_or_past trio.c.now k 0 (omega arith)))
    ∙ nothing trio.factor where
      -- a factor times nothing
      nothing : (f : ℕ) → f ⊗ (0 ⊕ 0 ⊕ 0) ≡ 0
      nothing f = simp (add_zero, mul_zero)

-- n places with their products with a trio, stored where they stand
pub trio-put : (n : ℕ) (acc : List ℕ) (trio : Trio) (products : List ℕ) (at : ℕ) → at + n ≤ length acc
    → length trio.a.now ≡ length acc → length trio.b.now ≡ length acc → length trio.c.now ≡ length acc
    → products ≡ map (λ x. trio.factor ⊗ x) (zip2 bit_xor (zip2 bit_xor (chunk at n trio.a.now) (chunk at n trio.b.now)) (chunk at n trio.c.now))
    → IsAdded (put_chunk at acc (zip2 bit_xor (chunk at n acc) products)) acc (trio_at trio) at (at + n)
unfolding trio_at
trio-put n acc trio products at room ea eb ec e =
    let a = trio.a.now in
    let b = trio.b.now in
    let c = trio.c.now in
    let two = lanes-sum (chunk at n a) (chunk at n b) _ _ at (lanes-of n a at (omega arith)) (lanes-of n b at (omega arith)) in
    let three = lanes-sum _ (chunk at n c) _ _ at two (lanes-of n c at (omega arith)) in
    lanes-put n acc acc acc products (trio_at trio) at at at (omega arith) room refl (omega arith) (omega arith) (λ k l. refl)
    (lanes-times _ products _ trio.factor at e three)
    (added-none acc (trio_at trio) at)

-- one place of a trio
pub trio-place : (trio : Trio) (k x : ℕ)
    → x ≡ trio.factor ⊗ bit_xor (bit_xor (get_or trio.a.now k 0) (get_or trio.b.now k 0)) (get_or trio.c.now k 0) → x ≡ trio_at trio k
unfolding ◌⊕◌ trio_at
trio-place trio k x e = e

-- `new` is `old` plus g in the first n places, and plus h in the first m, which are no more
pub record IsLagged (new old : List ℕ) (g h : ℕ → ℕ) (n m : ℕ) : Type 0 where
  pub both : (k : ℕ) → k < m → get_or new k 0 ≡ get_or old k 0 ⊕ g k ⊕ h k
  pub first : (k : ℕ) → m ≤ k → k < n → get_or new k 0 ≡ get_or old k 0 ⊕ g k
  pub none : (k : ℕ) → n ≤ k → get_or new k 0 ≡ get_or old k 0

-- the first has begun
pub lagged-start : (new old : List ℕ) (g h : ℕ → ℕ) (n : ℕ) → IsAdded new old g 0 n → IsLagged new old g h n 0
lagged-start new old g h n s = record {
  both = λ k l. absurd (omega arith);
  first = λ k l m. s.added k l m;
  none = λ k l. s.after k l;
}

-- the first goes on
pub lagged-first : (new mid old : List ℕ) (g h : ℕ → ℕ) (n m to : ℕ) → m ≤ n → n ≤ to → IsAdded new mid g n to → IsLagged mid old g h n m → IsLagged new old g h to m
lagged-first new mid old g h n m to l r s done = record {
  both = λ k i. s.before k (omega arith) ∙ done.both k i;
  first = λ k i j.
      elim (cases_lt k n) [
        | inl low ↦ s.before k low ∙ done.first k i low
        | inr high ↦ s.added k high j ∙ ap (λ x. x ⊕ g k) (done.none k high)
      ];
  none = λ k i. s.after k i ∙ done.none k (omega arith);
}

-- the second goes on
pub lagged-second : (new mid old : List ℕ) (g h : ℕ → ℕ) (n m to : ℕ) → m ≤ to → to ≤ n → IsAdded new mid h m to → IsLagged mid old g h n m → IsLagged new old g h n to
lagged-second new mid old g h n m to l r s done = record {
  both = λ k i.
      elim (cases_lt k m) [
        | inl low ↦ s.before k low ∙ done.both k low
        | inr high ↦ s.added k high i ∙ ap (λ x. x ⊕ h k) (done.first k high (omega arith))
      ];
  first = λ k i j. s.after k i ∙ done.first k (omega arith) j;
  none = λ k i. s.after k (omega arith) ∙ done.none k i;
}

-- both are through
pub lagged-all : (new old : List ℕ) (g h : ℕ → ℕ) (n : ℕ) → ((k : ℕ) → n ≤ k → g k ≡ 0) → ((k : ℕ) → n ≤ k → h k ≡ 0) → IsLagged new old g h n n
    → (k : ℕ) → get_or new k 0 ≡ get_or old k 0 ⊕ g k ⊕ h k
lagged-all new old g h n no_g no_h done k =
    elim (cases_lt k n) [
      | inl low ↦ done.both k low
      | inr high ↦
          done.none k high
          ∙ sym (ap₂ (λ x y. get_or old k 0 ⊕ x ⊕ y) (no_g k high) (no_h k high) ∙ add_zero _ ∙ add_zero _)
    ]
