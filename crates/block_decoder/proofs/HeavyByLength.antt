-- Different vectors, each heavy for as many columns as it is long: how many there are.
use Rattle.std.proofs.Common.{◌≡◌, ◌≢◌, ℕ, zero, suc, ◌+◌, ◌-◌, ◌*◌, ◌<◌, ◌≤◌, Bool, not, ltb, ltb-true, ltb-false, List, [], ◌∷◌, length, get_or, filter, All, AllPairs, refl, sym, subst, arith}
use Rattle.std.proofs.lemmas.Bool.{not-true}
use Rattle.std.proofs.lemmas.List.Elements.{All-filter, filter_passes}
use Rattle.std.proofs.lemmas.List.Filters.{length-filter_both}
use Rattle.std.proofs.lemmas.List.Kept.{AllPairs-filter}
use Rattle.wire_frames.specs.Answer.{Answer}
use Rattle.block_decoder.specs.Numbers.{bound_of}
use Rattle.block_decoder.specs.Vectors.{IsHeavyVector, AreHeavyVectors}
use Rattle.block_decoder.proofs.HeavyVectors.{few_heavy, one_for_no_column}

-- different vectors, each heavy for as many columns as it is long
pub record AreHeavyByLength (answers : List Answer) (t h : ℕ) (vectors : List (List (List ℕ))) : Type 0 where
  pub different : AllPairs (λ v w. v ≢ w) vectors
  pub heavy : All (λ v. IsHeavyVector answers (length v) t h v) vectors

module _ (answers : List Answer) (t h : ℕ) where
  -- those of one length are heavy vectors for so many columns
  heavy_of_length : (c : ℕ) (vectors : List (List (List ℕ))) → AreHeavyByLength answers t h vectors
      → All (λ v. length v ≡ c) vectors → AreHeavyVectors answers c t h vectors
  heavy_of_length c vectors are long = record {
    different = are.different;
    heavy = λ i d l. subst (λ n. IsHeavyVector answers n t h (get_or vectors i d)) (long i d l) (are.heavy i d l);
  }

  -- those that pass a test
  heavy_filter : (test : List (List ℕ) → Bool) (vectors : List (List (List ℕ))) → AreHeavyByLength answers t h vectors
      → AreHeavyByLength answers t h (filter test vectors)
  heavy_filter test vectors are = record {
    different = AllPairs-filter (λ v w. v ≢ w) test vectors are.different;
    heavy = All-filter test (λ v. IsHeavyVector answers (length v) t h v) vectors are.heavy;
  }

module _ (answers : List Answer) (bytes : All (λ a. a.index < 256) answers)
    (different : AllPairs (λ a b. a.index ≢ b.index) answers) (t h : ℕ) (less : t < h)
    (strong : length answers * t < h * h) where
  -- for n columns at most
  few_by_length-upto : (n : ℕ) (vectors : List (List (List ℕ))) → AreHeavyByLength answers t h vectors
      → All (λ v. length v < suc n) vectors → length vectors ≤ 1 + n * bound_of (length answers) t h
  few_by_length-upto zero vectors are short =
      let none = heavy_of_length answers t h 0 vectors are (λ i d l. let s = short i d l in omega (arith, s)) in
      let one = one_for_no_column answers t h vectors none in
      omega (arith, one)
  few_by_length-upto (suc n) vectors are short =
      let shorter : List (List ℕ) → Bool = λ v. ltb (length v) (suc n) in
      let others : List (List ℕ) → Bool = λ v. not (shorter v) in
      let kept = heavy_filter answers t h shorter vectors are in
      let rest = few_by_length-upto n (filter shorter vectors) kept
      (λ i d l.
      let v = get_or (filter shorter vectors) i d in
      ltb-true (length v) (suc n) (filter_passes shorter vectors i d l)) in
      let left = heavy_filter answers t h others vectors are in
      let last = few_heavy answers bytes different (suc n) t h (filter others vectors) less strong
      (heavy_of_length answers t h (suc n) (filter others vectors) left (λ i d l.
      let v = get_or (filter others vectors) i d in
      let low = ltb-false (length v) (suc n) (not-true (shorter v) (filter_passes others vectors i d l)) in
      let high = All-filter others (λ v. length v < suc (suc n)) vectors short i d l in
      omega (arith, low, high))) in
      let both = length-filter_both shorter others (λ v. refl) vectors in
      omega (arith, rest, last, both)

  -- one for no column, and Johnson's bound for each number of columns from 1 to s - 1
  pub few_by_length : (s : ℕ) (vectors : List (List (List ℕ))) → AllPairs (λ v w. v ≢ w) vectors
      → All (λ v. IsHeavyVector answers (length v) t h v) vectors → All (λ v. length v < s) vectors
      → length vectors ≤ 1 + (s - 1) * bound_of (length answers) t h
  few_by_length zero [] differ heavy short = omega arith
  few_by_length zero (v ∷ vectors) differ heavy short = absurd (let s = short 0 v (omega arith) in omega (arith, s))
  few_by_length (suc n) vectors differ heavy short =
      let e : suc n - 1 ≡ n = omega arith in
      subst (λ m. length vectors ≤ 1 + m * bound_of (length answers) t h) (sym e)
      (few_by_length-upto n vectors (record { different = differ; heavy = heavy }) short)
