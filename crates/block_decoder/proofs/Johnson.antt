-- Johnson's count (Johnson 1962): tests that each pass at h of k elements, and any two together at t at most, are few.
use Rattle.std.proofs.Common.{◌≡◌, ℕ, zero, suc, ◌+◌, ◌*◌, ◌<◌, ◌≤◌, ◌&&◌, Bool, true, false, List, [], ◌∷◌, length, map, count_by, All, AllPairs, refl, sym, ap, subst, ◌∙◌, arith}
use Rattle.std.proofs.lemmas.List.{length-map}
use Rattle.std.proofs.lemmas.List.Elements.{All-map}
use Rattle.block_decoder.specs.Numbers.{bound_of}
use Rattle.block_decoder.proofs.Counting.{one_if, count-cons}
use Rattle.block_decoder.proofs.Pairs.{AllPairs-map}
use Rattle.block_decoder.proofs.Squares.{total, squares, dot, IsRow, ShareFew, few_rows}

-- ---- the first h places where a test passes

-- a row with a mark at each of them
abbrev first_marks : ℕ → List Bool → List ℕ
first_marks h [] = []
first_marks zero (b ∷ bs) = 0 ∷ first_marks zero bs
first_marks (suc h) (false ∷ bs) = 0 ∷ first_marks (suc h) bs
first_marks (suc h) (true ∷ bs) = 1 ∷ first_marks h bs

-- there are as many marks as tests
length-first_marks : (h : ℕ) (bs : List Bool) → length (first_marks h bs) ≡ length bs
length-first_marks h [] = refl
length-first_marks zero (b ∷ bs) = ap suc (length-first_marks zero bs)
length-first_marks (suc h) (false ∷ bs) = ap suc (length-first_marks (suc h) bs)
length-first_marks (suc h) (true ∷ bs) = ap suc (length-first_marks h bs)

-- how many pass, and how many pass in both of two rows
abbrev passed : List Bool → ℕ
passed [] = 0
passed (b ∷ bs) = one_if b + passed bs

-- at how many places both lists have passed
abbrev passed_both : List Bool → List Bool → ℕ
passed_both [] cs = 0
passed_both (b ∷ bs) [] = 0
passed_both (b ∷ bs) (c ∷ cs) = one_if (b && c) + passed_both bs cs

-- where enough have passed, so many are marked
total-first_marks : (h : ℕ) (bs : List Bool) → h ≤ passed bs → total (first_marks h bs) ≡ h
total-first_marks h [] many = omega arith
total-first_marks zero (b ∷ bs) many = let rest = total-first_marks zero bs (omega arith) in omega arith
total-first_marks (suc h) (false ∷ bs) many = let rest = total-first_marks (suc h) bs (omega arith) in omega arith
total-first_marks (suc h) (true ∷ bs) many = let rest = total-first_marks h bs (omega arith) in omega arith

-- a mark is its own square
squares-first_marks : (h : ℕ) (bs : List Bool) → squares (first_marks h bs) ≡ total (first_marks h bs)
squares-first_marks h [] = refl
squares-first_marks zero (b ∷ bs) = let rest = squares-first_marks zero bs in omega arith
squares-first_marks (suc h) (false ∷ bs) = let rest = squares-first_marks (suc h) bs in omega arith
squares-first_marks (suc h) (true ∷ bs) = let rest = squares-first_marks h bs in omega arith

-- two rows of marks share no more places than pass in both
dot-first_marks : (g h : ℕ) (bs cs : List Bool) → dot (first_marks g bs) (first_marks h cs) ≤ passed_both bs cs
dot-first_marks g h [] cs = omega arith
dot-first_marks zero h (b ∷ bs) [] = omega arith
dot-first_marks (suc g) h (false ∷ bs) [] = omega arith
dot-first_marks (suc g) h (true ∷ bs) [] = omega arith
dot-first_marks zero zero (b ∷ bs) (c ∷ cs) = let rest = dot-first_marks zero zero bs cs in omega arith
dot-first_marks zero (suc h) (b ∷ bs) (false ∷ cs) = let rest = dot-first_marks zero (suc h) bs cs in omega arith
dot-first_marks zero (suc h) (b ∷ bs) (true ∷ cs) = let rest = dot-first_marks zero h bs cs in omega arith
dot-first_marks (suc g) zero (false ∷ bs) (c ∷ cs) = let rest = dot-first_marks (suc g) zero bs cs in omega arith
dot-first_marks (suc g) zero (true ∷ bs) (c ∷ cs) = let rest = dot-first_marks g zero bs cs in omega arith
dot-first_marks (suc g) (suc h) (false ∷ bs) (false ∷ cs) =
    let rest = dot-first_marks (suc g) (suc h) bs cs in omega arith
dot-first_marks (suc g) (suc h) (false ∷ bs) (true ∷ cs) = let rest = dot-first_marks (suc g) h bs cs in omega arith
dot-first_marks (suc g) (suc h) (true ∷ bs) (false ∷ cs) = let rest = dot-first_marks g (suc h) bs cs in omega arith
dot-first_marks (suc g) (suc h) (true ∷ bs) (true ∷ cs) = let rest = dot-first_marks g h bs cs in omega arith

-- ---- tests on the elements of a list

-- as many tests pass as elements do
passed-map : {X : Type 0} (test : X → Bool) (xs : List X) → passed (map test xs) ≡ count_by test xs
passed-map test [] = refl
passed-map test (x ∷ xs) = ap (λ n. one_if (test x) + n) (passed-map test xs) ∙ sym (count-cons test x xs)

-- as many pass both as elements do
passed_both-map : {X : Type 0} (p q : X → Bool) (xs : List X)
    → passed_both (map p xs) (map q xs) ≡ count_by (λ x. p x && q x) xs
passed_both-map p q [] = refl
passed_both-map p q (x ∷ xs) =
    ap (λ n. one_if (p x && q x) + n) (passed_both-map p q xs) ∙ sym (count-cons (λ x. p x && q x) x xs)

module _ {X V : Type 0} (passes : V → X → Bool) (xs : List X) where
  -- the row of marks of a vector
  row_of : ℕ → V → List ℕ
  row_of h v = first_marks h (map (passes v) xs)

  -- it is a row of so many marks
  is_row : (h : ℕ) (v : V) → h ≤ count_by (passes v) xs → IsRow (length xs) h (row_of h v)
  unfolding row_of
  is_row h v many =
      let count = passed-map (passes v) xs in
      let marked = total-first_marks h (map (passes v) xs) (omega (arith, many, count)) in
      record {
        size = length-first_marks h (map (passes v) xs) ∙ length-map xs (passes v);
        marked = marked;
        squared = squares-first_marks h (map (passes v) xs) ∙ marked;
      }

  -- the rows of two vectors share few marks where these share few elements
  share_few : (t h : ℕ) (v w : V) → count_by (λ x. passes v x && passes w x) xs ≤ t
      → ShareFew t (row_of h v) (row_of h w)
  unfolding row_of
  share_few t h v w few =
      let shared = dot-first_marks h h (map (passes v) xs) (map (passes w) xs) in
      let count = passed_both-map (passes v) (passes w) xs in
      omega (arith, few, shared, count)

  -- tests that each pass at h of the k elements, and two together at t at most, are at most as many as Johnson's bound
  -- says, where k * t < h * h
  pub few_pass : (t h : ℕ) (vs : List V) → t < h → length xs * t < h * h
      → All (λ v. h ≤ count_by (passes v) xs) vs
      → AllPairs (λ v w. count_by (λ x. passes v x && passes w x) xs ≤ t) vs → length vs ≤ bound_of (length xs) t h
  few_pass t h vs less strong many few =
      let count = few_rows (length xs) t h (map (row_of h) vs) less strong
      (All-map (IsRow (length xs) h) (row_of h) vs (λ i d l. is_row h _ (many i d l)))
      (AllPairs-map (ShareFew t) (row_of h) vs (λ i j d before l. share_few t h _ _ (few i j d before l))) in
      subst (λ n. n ≤ bound_of (length xs) t h) (length-map vs (row_of h)) count
