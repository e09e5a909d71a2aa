-- Vectors of polynomials, one for each of the first columns, that hold at enough answers.
use Rattle.std.specs.Prelude.{◌≡◌, ◌≢◌, ℕ, ◌<◌, ◌≤◌, List, length, All, AllPairs}
use Rattle.gf256.specs.Polynomial.{IsPolynomial}
use Rattle.wire_frames.specs.Answer.{Answer}
use Rattle.block_decoder.specs.Agreed.{weight}

-- one polynomial of degree at most t for each of the first c columns, and together they hold at h answers
pub record IsHeavyVector (answers : List Answer) (c t h : ℕ) (vector : List (List ℕ)) : Type 0 where
  pub one_a_column : length vector ≡ c
  pub degree : All (IsPolynomial t) vector
  pub enough : h ≤ weight vector answers

-- different heavy vectors for the first c columns
pub record AreHeavyVectors (answers : List Answer) (c t h : ℕ) (vectors : List (List (List ℕ))) : Type 0 where
  pub different : AllPairs (λ v w. v ≢ w) vectors
  pub heavy : All (IsHeavyVector answers c t h) vectors

-- on any k answers with different indices, different heavy vectors for the same columns number so many at most
abbrev pub HeavyVectorsAreFew : ℕ → ℕ → ℕ → ℕ → Type 0
HeavyVectorsAreFew k t h most = (answers : List Answer) (c : ℕ) (vectors : List (List (List ℕ))) → length answers ≡ k
    → All (λ a. a.index < 256) answers → AllPairs (λ a b. a.index ≢ b.index) answers
    → AreHeavyVectors answers c t h vectors → length vectors ≤ most
