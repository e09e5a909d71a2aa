-- The answers at which polynomials hold, one more column at a time.
use Rattle.std.proofs.Common.{◌≡◌, ℕ, ◌+◌, ◌<◌, ◌&&◌, ◌==◌, Bool, true, false, cond, List, [], ◌∷◌, ◌++◌, length, map, get_or, count_by, All, refl, sym, ap, ap₂, ◌∙◌, arith}
use Rattle.std.specs.List.{filter}
use Rattle.std.proofs.lemmas.List.Elements.{All-head, All-tail}
use Rattle.std.proofs.lemmas.List.Sums.{length-filter}
use Rattle.gf256.specs.Polynomial.{val}
use Rattle.wire_frames.specs.Answer.{Answer}
use Rattle.column_lists.specs.Agreement.{agreements}
use Rattle.block_decoder.specs.Agreed.{Filled, holds_first, weight}
use Rattle.block_decoder.specs.Narrowing.{holding, holds_at, points_of}
use Rattle.block_decoder.proofs.Counting.{one_if, count-cons}
use Rattle.block_decoder.proofs.Weight.{holds_first-more}

-- ---- filters

module _ {X : Type 0} where
  -- what passes both tests passes one after the other
  pub filter-both : (both first second : X → Bool) (xs : List X) → All (λ x. both x ≡ (first x && second x)) xs
      → filter both xs ≡ filter second (filter first xs)
  filter-both both first second [] h = refl
  filter-both both first second (x ∷ xs) h =
      let here = All-head (λ x. both x ≡ (first x && second x)) x xs h in
      let rest = filter-both both first second xs (All-tail (λ x. both x ≡ (first x && second x)) x xs h) in
      step (both x) (first x) here rest
    where
      step : (b f : Bool) → b ≡ (f && second x) → filter both xs ≡ filter second (filter first xs)
          → cond b (x ∷ filter both xs) (filter both xs) ≡ filter second (cond f (x ∷ filter first xs) (filter first xs))
      step b true e r = ap₂ (λ (c : Bool) (l : List X). cond c (x ∷ l) l) e r
      step b false e r = ap₂ (λ (c : Bool) (l : List X). cond c (x ∷ l) l) e r

  -- all are left where all pass
  pub filter-all : (test : X → Bool) (xs : List X) → All (λ x. test x ≡ true) xs → filter test xs ≡ xs
  filter-all test [] h = refl
  filter-all test (x ∷ xs) h =
      ap₂ (λ (b : Bool) (l : List X). cond b (x ∷ l) l) (All-head (λ x. test x ≡ true) x xs h) (filter-all test xs (All-tail (λ x. test x ≡ true) x xs h))

-- the images that pass are as many as the elements whose image passes
pub count_by-image : {X Y : Type 0} (test : Y → Bool) (f : X → Y) (xs : List X)
    → count_by test (map f xs) ≡ count_by (λ x. test (f x)) xs
count_by-image test f [] = refl
count_by-image test f (x ∷ xs) =
    count-cons test (f x) (map f xs) ∙ ap (λ n. one_if (test (f x)) + n) (count_by-image test f xs) ∙ sym (count-cons (λ x. test (f x)) x xs)

-- ---- one column more

-- the longer vector holds where the next polynomial does in its column, among the answers at which the shorter holds
pub holding-more : (answers : List Answer) (width column : ℕ) (v : List (List ℕ)) (p : List ℕ)
    → Filled width answers → length v ≡ column → column < width
    → holding (v ++ p ∷ []) answers ≡ filter (holds_at p column) (holding v answers)
holding-more answers width column v p filled size short =
    filter-both (holds_first (v ++ p ∷ [])) (holds_first v) (holds_at p column) answers
    (λ i d l. holds_first-more v p (get_or answers i d) column size (let w = filled i d l in omega (arith, w, short)))

-- so it is heavy by as many as agree with it there
pub weight-more : (answers : List Answer) (width column : ℕ) (v : List (List ℕ)) (p : List ℕ) → Filled width answers
    → length v ≡ column → column < width
    → weight (v ++ p ∷ []) answers ≡ agreements p (points_of (holding v answers) column)
unfolding agreements
weight-more answers width column v p filled size short =
    sym (length-filter (holds_first (v ++ p ∷ [])) answers) ∙ ap length (holding-more answers width column v p filled size short)
    ∙ length-filter (holds_at p column) (holding v answers)
    ∙ sym (count_by-image (λ (q : ℕ × ℕ). val p q.0 == q.1) (λ (a : Answer). (a.index, get_or a.payload column 0)) (holding v answers))

-- none is lost where the polynomial holds at all
pub holding-same : (answers : List Answer) (width column : ℕ) (v : List (List ℕ)) (p : List ℕ)
    → Filled width answers → length v ≡ column → column < width
    → All (λ a. holds_at p column a ≡ true) (holding v answers) → holding (v ++ p ∷ []) answers ≡ holding v answers
holding-same answers width column v p filled size short all =
    holding-more answers width column v p filled size short ∙ filter-all (holds_at p column) (holding v answers) all
