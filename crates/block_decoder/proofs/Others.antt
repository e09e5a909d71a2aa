-- Which answers aren't among those that pass a test.
use Rattle.std.proofs.Common.{◌≡◌, ◌≢◌, ◌↔◌, ◌==◌, ◌||◌, ℕ, Bool, true, false, not, cond, List, [], ◌∷◌, filter, All, AllPairs, Contains, refl, sym, ap, subst, ◌∙◌, inl, inr, arith}
use Rattle.std.specs.List.{list_any}
use Rattle.std.proofs.lemmas.Bool.Decides.{eqb_tells}
use Rattle.std.proofs.lemmas.List.Elements.{All-contains, All-filter, All-map, All-weaker, filter_passes}
use Rattle.std.proofs.lemmas.List.Folds.{list_any_none}
use Rattle.wire_frames.specs.Answer.{Answer}
use Rattle.column_lists.proofs.Kept.{Contains-filter}
use Rattle.block_decoder.specs.Report.{indices_of}
use Rattle.block_decoder.specs.Text.{others}
use Rattle.block_decoder.proofs.Members.{first_or_later}
use Rattle.block_decoder.proofs.Pairs.{AllPairs-head, AllPairs-tail}
use Rattle.block_decoder.proofs.Reported.{image-in}

-- a number is equal to itself
same_number : (i : ℕ) → (i == i) ≡ true
same_number i = elim (eqb_tells i i) [ inl same ↦ same.0 | inr other ↦ absurd (other.1 refl) ]

-- different numbers are not equal
other_number : (i j : ℕ) → i ≢ j → (i == j) ≡ false
other_number i j differ = elim (eqb_tells i j) [ inl same ↦ absurd (differ same.1) | inr other ↦ other.0 ]

-- whether one of the answers has this index
has_index : List Answer → ℕ → Bool
has_index answers i = list_any (λ j. j == i) (indices_of answers)

module _ (test : Answer → Bool) where
  -- where no answer has the index, none that passes has
  none_with : (answers : List Answer) (i : ℕ) → All (λ b. b.index ≢ i) answers → has_index (filter test answers) i ≡ false
  unfolding has_index
  none_with answers i apart =
      list_any_none (λ j. j == i) (indices_of (filter test answers))
      (All-map (λ (j : ℕ). (j == i) ≡ false) (λ (b : Answer). b.index) (filter test answers)
      (All-weaker (λ (b : Answer). b.index ≢ i) (λ (b : Answer). (b.index == i) ≡ false) (λ b differ. other_number b.index i differ) (filter test answers)
      (All-filter test (λ (b : Answer). b.index ≢ i) answers apart)))

  -- the first answer is among those that pass where it passes
  here : (b : Bool) (x : Answer) (kept : List Answer) → has_index kept x.index ≡ false → has_index (cond b (x ∷ kept) kept) x.index ≡ b
  unfolding has_index
  here true x kept none = ap (λ c. c || list_any (λ j. j == x.index) (indices_of kept)) (same_number x.index)
  here false x kept none = none

  -- another is among them where it was
  there : (b : Bool) (x a : Answer) (kept : List Answer) → x.index ≢ a.index → has_index (cond b (x ∷ kept) kept) a.index ≡ has_index kept a.index
  unfolding has_index
  there true x a kept differ = ap (λ c. c || list_any (λ j. j == a.index) (indices_of kept)) (other_number x.index a.index differ)
  there false x a kept differ = refl

  -- where indices differ, one that passes has an answer's index where that answer passes
  passes_with : (answers : List Answer) → AllPairs (λ a b. a.index ≢ b.index) answers → (a : Answer) → Contains answers a
      → has_index (filter test answers) a.index ≡ test a
  passes_with [] different a (i, l, is) = absurd (omega (arith, l))
  passes_with (x ∷ xs) different a among =
      let apart = AllPairs-head (λ a b. a.index ≢ b.index) x xs different in
      elim (first_or_later x xs a among) [
        | inl is ↦ subst (λ (b : Answer). has_index (filter test (x ∷ xs)) b.index ≡ test b) is
            (here (test x) x (filter test xs) (none_with xs x.index (λ i d l e. apart i d l (sym e))))
        | inr later ↦
            there (test x) x a (filter test xs) (All-contains (λ b. x.index ≢ b.index) xs a apart later)
            ∙ passes_with xs (AllPairs-tail (λ a b. a.index ≢ b.index) x xs different) a later
      ]

  -- what is not so is false
  not_true : (b : Bool) → not b ≡ true → b ≡ false
  not_true true e = absurd cc
  not_true false e = refl

  -- exactly the answers that don't pass aren't among those that do
  pub others-exact : (answers : List Answer) → AllPairs (λ a b. a.index ≢ b.index) answers → (a : Answer) → Contains answers a
      → Contains (others (indices_of (filter test answers)) answers) a.index ↔ (test a ≡ false)
  unfolding others has_index
  others-exact answers different a among =
      let is = passes_with answers different a among in
      let kept = λ (i : ℕ). not (has_index (filter test answers) i) in (
        λ c. sym is ∙ not_true (has_index (filter test answers) a.index)
            (All-contains (λ (i : ℕ). kept i ≡ true) (filter kept (indices_of answers)) a.index (filter_passes kept (indices_of answers)) c),
        λ e. Contains-filter kept (indices_of answers) a.index (image-in (λ (a : Answer). a.index) answers a among) (ap not (is ∙ e)),
      )
