-- Rows to which something is added, in pieces.
use Rattle.std.proofs.Common.{◌≡◌, ℕ, ◌+◌, ◌-◌, ◌<◌, ◌≤◌, List, ◌++◌, length, get_or, take, drop, bit_xor, set, refl, sym, ap, ap₂, subst, ◌∙◌, arith, inl, inr}
use Rattle.std.specs.Simd.Lanes.{put_chunk}
use Rattle.std.proofs.lemmas.Bool.{cases_lt}
use Rattle.std.proofs.lemmas.List.{get_or-set_same, get_or-set_other, get_or-take, get_or-drop, get_or_append_left, get_or-append_right}
use Rattle.std.proofs.lemmas.Simd.{get_or-put_chunk_at, get_or-put_chunk_below, get_or-put_chunk_above}
use Rattle.gf256.specs.Field.{◌⊕◌}
use Rattle.gf256.specs.Rows.{IsAdded, AreLanes}
use Rattle.gf256.proofs.Xor.{add_zero}

-- nothing yet
pub added-none : (old : List ℕ) (g : ℕ → ℕ) (at : ℕ) → IsAdded old old g at at
added-none old g at = record {
  before = λ k l. refl;
  added = λ k l m. absurd (omega arith);
  after = λ k l. refl;
}

-- one piece after the other
pub added-on : (new mid old : List ℕ) (g : ℕ → ℕ) (from at to : ℕ) → from ≤ at → at ≤ to
    → IsAdded mid old g from at → IsAdded new mid g at to → IsAdded new old g from to
added-on new mid old g from at to l m a b = record {
  before = λ k h. b.before k (omega arith) ∙ a.before k h;
  added = λ k h i.
      elim (cases_lt k at) [
        | inl low ↦ b.before k low ∙ a.added k h low
        | inr high ↦ b.added k high i ∙ ap (λ x. x ⊕ g k) (a.after k high)
      ];
  after = λ k h. b.after k h ∙ a.after k (omega arith);
}

-- one more place
pub added-place : (acc old : List ℕ) (g : ℕ → ℕ) (from n x : ℕ) → from ≤ n → n < length acc → x ≡ g n
    → IsAdded acc old g from n → IsAdded (set acc n (bit_xor (get_or acc n 0) x)) old g from (n + 1)
unfolding ◌⊕◌
added-place acc old g from n x m l e done =
    let y = bit_xor (get_or acc n 0) x in
    record {
      before = λ k h. get_or-set_other acc n k y 0 (λ same. omega arith) ∙ done.before k h;
      added = λ k i h.
          elim (cases_lt k n) [
            | inl low ↦ get_or-set_other acc n k y 0 (λ same. omega arith) ∙ done.added k i low
            | inr high ↦
                let same : n ≡ k = omega arith in
                subst (λ j. get_or (set acc n y) j 0 ≡ bit_xor (get_or old j 0) (g j)) same
                (get_or-set_same acc n y 0 l ∙ ap₂ bit_xor (done.after n (omega arith)) e)
          ];
      after = λ k h. get_or-set_other acc n k y 0 (λ same. omega arith) ∙ done.after k (omega arith);
    }

-- m places at once, of which some may be done, and some may stand before the first that is added
-- to
pub added-lanes : {m : ℕ} (acc old lanes : List ℕ) (g h : ℕ → ℕ) (from start n : ℕ)
    → start + m ≤ length acc → AreLanes m lanes h start → from ≤ start + m → start ≤ n → n ≤ start + m
    → ((k : ℕ) → start ≤ k → k < from → h k ≡ get_or old k 0)
    → ((k : ℕ) → start ≤ k → from ≤ k → k < start + m → h k ≡ get_or old k 0 ⊕ g k)
    → IsAdded acc old g from n → IsAdded (put_chunk start acc lanes) old g from (start + m)
added-lanes {m} acc old lanes g h from start n room are first low_end high_end kept more done =
    let at : (k : ℕ) → start ≤ k → k < start + m → get_or (put_chunk start acc lanes) k 0 ≡ h k =
    λ k l i.
    let place : start + (k - start) ≡ k = omega arith in
    subst (λ p. get_or (put_chunk start acc lanes) p 0 ≡ h p) place
    (get_or-put_chunk_at start acc lanes (k - start) 0 (omega (arith, l, i, are.size)) (omega (arith, l, i, room, are.size))
    ∙ are.each (k - start) (omega (arith, l, i))) in
    record {
      before = λ k l.
          elim (cases_lt k start) [
            | inl low ↦ get_or-put_chunk_below start acc lanes k 0 low ∙ done.before k l
            | inr high ↦ at k high (omega (arith, l, first)) ∙ kept k high l
          ];
      added = λ k l i.
          elim (cases_lt k start) [
            | inl low ↦ get_or-put_chunk_below start acc lanes k 0 low ∙ done.added k l (omega (arith, low, low_end))
            | inr high ↦ at k high i ∙ more k high l i
          ];
      after = λ k l. get_or-put_chunk_above start acc lanes k 0 (omega (arith, l, are.size)) ∙ done.after k (omega (arith, l, high_end));
    }

-- the whole row: past its end nothing is added
pub added-all : (new old : List ℕ) (g : ℕ → ℕ) (n : ℕ) → ((k : ℕ) → n ≤ k → g k ≡ 0) → IsAdded new old g 0 n
    → (k : ℕ) → get_or new k 0 ≡ get_or old k 0 ⊕ g k
added-all new old g n past done k =
    elim (cases_lt k n) [
      | inl low ↦ done.added k (omega arith) low
      | inr high ↦ done.after k high ∙ sym (ap (◌⊕◌ (get_or old k 0)) (past k high) ∙ add_zero _)
    ]

-- the front of a row, where the other places stay
pub added-front : (front acc : List ℕ) (g : ℕ → ℕ) (n : ℕ) → n ≤ length acc → length front ≡ n → ((k : ℕ) → n ≤ k → g k ≡ 0)
    → ((k : ℕ) → get_or front k 0 ≡ get_or (take n acc) k 0 ⊕ g k)
    → (k : ℕ) → get_or (front ++ drop n acc) k 0 ≡ get_or acc k 0 ⊕ g k
added-front front acc g n within size past is k =
    elim (cases_lt k n) [
      | inl low ↦
          get_or_append_left front (drop n acc) 0 k (omega (arith, low, size)) ∙ is k
          ∙ ap (λ x. x ⊕ g k) (get_or-take n acc k 0 low)
      | inr high ↦
          let place : n + (k - n) ≡ k = omega (arith, high) in
          get_or-append_right front (drop n acc) n k 0 size high ∙ get_or-drop n acc (k - n) 0
          ∙ ap (λ j. get_or acc j 0) place
          ∙ sym (ap (◌⊕◌ (get_or acc k 0)) (past k high) ∙ add_zero _)
    ]
