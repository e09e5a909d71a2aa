-- The vectors at which lists are made while answers are narrowed, and how many nodes that takes.
use Rattle.std.specs.Prelude.{◌≡◌, ℕ, ◌+◌, ◌*◌, ◌≤◌, ◌⊎◌, ◌&&◌, List, [], ◌∷◌, ◌++◌, length, All, AllPairs, Contains, count_by}
use Rattle.gf256.specs.Polynomial.{IsPolynomial}
use Rattle.column_runs.specs.Close.{least_misses}
use Rattle.wire_frames.specs.Answer.{Answer}
use Rattle.block_decoder.specs.Agreed.{holds_first, weight}
use Rattle.block_decoder.specs.declared.decoding.Decoding.{Decoding}

-- at how many answers both vectors hold, each in its first columns
abbrev pub shared : List Answer → List (List ℕ) → List (List ℕ) → ℕ
shared answers v w = count_by (λ a. holds_first v a && holds_first w a) answers

-- how many answers each polynomial of a column misses where none is close
abbrev pub misses_of : Decoding → ℕ
misses_of decoding = least_misses decoding.degree decoding.agreement

-- a vector that begins with these polynomials, and holds at answers enough for a list: so many can lie on a polynomial of the
-- next column, and as many be off it as are where no polynomial is close
pub record TakesList (decoding : Decoding) (polynomials vector : List (List ℕ)) : Type 0 where
  pub more : List (List ℕ)
  pub begins : vector ≡ polynomials ++ more
  pub enough : decoding.agreement + misses_of decoding ≤ weight vector decoding.answers

-- w has lost as many answers of v as are off each polynomial of a list, or both hold together at few answers, as many as the
-- degree
abbrev pub LosesOrParts : Decoding → List (List ℕ) → List (List ℕ) → Type 0
LosesOrParts decoding v w = (weight w decoding.answers + misses_of decoding ≤ weight v decoding.answers)
    ⊎ (shared decoding.answers v w ≤ decoding.degree)

-- such vectors, each of which has lost answers of those before it or parted from them
pub record TakeLists (decoding : Decoding) (polynomials : List (List ℕ)) (vectors : List (List (List ℕ))) : Type 0 where
  pub each : All (TakesList decoding polynomials) vectors
  pub apart : AllPairs (LosesOrParts decoding) vectors

-- for each of some such vectors the nodes of a list were counted, at most
pub record NodesFrom (decoding : Decoding) (most : ℕ) (polynomials : List (List ℕ)) (old new : ℕ) : Type 0 where
  pub vectors : List (List (List ℕ))
  pub take : TakeLists decoding polynomials vectors
  pub nodes : new ≤ old + length vectors * most

-- a vector that takes a list, and begins with v and one of these polynomials
pub record TakesListBy (nexts : List (List ℕ)) (decoding : Decoding) (v vector : List (List ℕ)) : Type 0 where
  pub next : List ℕ
  pub listed : Contains nexts next
  pub degree : IsPolynomial decoding.degree next
  pub takes : TakesList decoding (v ++ next ∷ []) vector

-- for each of some such vectors the nodes of a list were counted, at most
pub record NodesBy (nexts : List (List ℕ)) (decoding : Decoding) (most : ℕ) (v : List (List ℕ)) (old new : ℕ) : Type 0 where
  pub vectors : List (List (List ℕ))
  pub each : All (TakesListBy nexts decoding v) vectors
  pub apart : AllPairs (LosesOrParts decoding) vectors
  pub nodes : new ≤ old + length vectors * most
