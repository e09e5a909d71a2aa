-- The answers that are still in question, and their points in a column.
use Rattle.std.proofs.Common.{◌≡◌, ◌≢◌, ℕ, ◌+◌, ◌<◌, ◌≤◌, List, [], ◌∷◌, ◌++◌, length, map, take, get_or, filter, cond, Bool, true, false, All, AllPairs, refl, sym, ap, subst, ◌∙◌, arith}
use Rattle.std.proofs.lemmas.List.{append-nil, length-map, map-append, take_all, take_more}
use Rattle.std.proofs.lemmas.List.Elements.{All-filter, All-map, filter_more}
use Rattle.std.proofs.lemmas.List.Kept.{AllPairs-filter}
use Rattle.std.proofs.lemmas.List.Sums.{length-filter, count_by-le-length}
use Rattle.wire_frames.specs.Answer.{Answer}
use Rattle.column_runs.specs.Run.{points_at}
use Rattle.block_decoder.specs.Narrowing.{points_of, IsPart}
use Rattle.block_decoder.proofs.Pairs.{AllPairs-map}

module _ (answers part : List Answer) (is : IsPart answers part) where
  -- they are no more than all
  pub part-few : length part ≤ length answers
  part-few =
      let n = length-filter is.test answers in
      let m = count_by-le-length is.test answers in
      let e = ap length is.is in
      omega (arith, n, m, e)

  -- what holds of all holds of them
  pub part-All : (P : Answer → Type 0) → All P answers → All P part
  part-All P all = subst (All P) (sym is.is) (All-filter is.test P answers all)

  -- they are of different servers where all are
  pub part-different : AllPairs (λ a b. a.index ≢ b.index) answers → AllPairs (λ a b. a.index ≢ b.index) part
  part-different all = subst (AllPairs (λ a b. a.index ≢ b.index)) (sym is.is) (AllPairs-filter (λ a b. a.index ≢ b.index) is.test answers all)

-- ---- the points of a column

module _ (part : List Answer) (column : ℕ) where
  -- the point of an answer
  point : Answer → ℕ × ℕ
  point a = (a.index, get_or a.payload column 0)

  -- there is a point for each answer
  pub length-points : length (points_of part column) ≡ length part
  unfolding point
  length-points = length-map part point

  -- what holds of the indices holds of the first members
  pub points-All : (P : ℕ → Type 0) → All (λ a. P a.index) part → All (λ p. P p.0) (points_of part column)
  unfolding point
  points-All P all = All-map (λ (p : ℕ × ℕ). P p.0) point part all

  -- no two have the same where no two indices are one
  pub points-different : AllPairs (λ a b. a.index ≢ b.index) part → AllPairs (λ p q. p.0 ≢ q.0) (points_of part column)
  unfolding point
  points-different all = AllPairs-map (λ (p q : ℕ × ℕ). p.0 ≢ q.0) point part all

-- the points of a run's column are those of the answers
pub points_at-is : (part : List Answer) (column : ℕ)
    → points_at (map (λ a. a.index) part) (map (λ a. a.payload) part) column ≡ points_of part column
points_at-is [] column = refl
points_at-is (a ∷ part) column = ap (λ (ps : List (ℕ × ℕ)). (a.index, get_or a.payload column 0) ∷ ps) (points_at-is part column)

-- ---- a loop over answers

-- the item of the loop has a byte in the column
pub byte_within : (column i : ℕ) (items all : List Answer) (a : Answer) (payload : List ℕ) → All (λ a. column < length a.payload) all
    → items ≡ all → i < length items → a ≡ get_or items i a → payload ≡ a.payload → column < length payload
byte_within column i items all a payload wide same inside item is =
    let at : column < length (get_or items i a).payload = subst (λ (answers : List Answer). All (λ a. column < length a.payload) answers) (sym same) wide i a inside in
    subst (λ (bytes : List ℕ). column < length bytes) (sym (is ∙ ap (λ (a : Answer). a.payload) item)) at

-- what is made of one more item
pub made_more : {Y Z : Type 0} (f : Y → Z) (i : ℕ) (items : List Y) (a : Y) (made new : List Z) (z : Z) → i < length items → a ≡ get_or items i a
    → made ≡ map f (take i items) → new ≡ made ++ z ∷ [] → z ≡ f a → new ≡ map f (take (i + 1) items)
made_more f i items a made new z inside item before is e =
    is ∙ ap (λ zs. zs ++ z ∷ []) before ∙ ap (λ y. map f (take i items) ++ y ∷ []) (e ∙ ap f item)
    ∙ sym (ap (map f) (take_more items i a inside) ∙ map-append f (take i items) (get_or items i a ∷ []))

-- what is made of all items
pub made_all : {Y Z : Type 0} (f : Y → Z) (i : ℕ) (items all : List Y) (made : List Z) → items ≡ all → length items ≤ i
    → made ≡ map f (take i items) → made ≡ map f all
made_all f i items all made same end before = before ∙ ap (map f) (take_all i items end ∙ same)

-- what passes of one more item
module _ {X : Type 0} (test : X → Bool) (i : ℕ) (items : List X) (a : X) (made new : List X) (inside : i < length items)
    (item : a ≡ get_or items i a) (before : made ≡ filter test (take i items)) where
  -- whether the next item passes
  one_more : (b : Bool) → test a ≡ b → filter test (take (i + 1) items) ≡ filter test (take i items) ++ cond b (a ∷ []) []
  one_more b e =
      filter_more test items i a inside ∙ ap (λ x. filter test (take i items) ++ cond (test x) (x ∷ []) []) (sym item)
      ∙ ap (λ b. filter test (take i items) ++ cond b (a ∷ []) []) e

  -- it is kept where it does
  pub kept_more : test a ≡ true → new ≡ made ++ a ∷ [] → new ≡ filter test (take (i + 1) items)
  kept_more passes is = is ∙ ap (λ xs. xs ++ a ∷ []) before ∙ sym (one_more true passes)

  -- and is not where it does not
  pub kept_same : test a ≡ false → new ≡ made → new ≡ filter test (take (i + 1) items)
  kept_same fails is = is ∙ before ∙ sym (one_more false fails ∙ append-nil (filter test (take i items)))
