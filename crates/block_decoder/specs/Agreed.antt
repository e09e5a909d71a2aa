-- The blocks on which enough answers agree (Goldberg 2007).
use Rattle.std.specs.Prelude.{◌≡◌, ◌≢◌, ℕ, ◌<◌, ◌≤◌, ◌↔◌, List, [], ◌∷◌, length, map, take, drop, slice_index_or, All, AllPairs, Contains, Bool, bytes_eq, count_by}
use Rattle.std.specs.Ordering.{nat_cmp}
use Rattle.std.specs.Cmp.Lexicographic.{slice_cmp}
use Rattle.std.specs.List.Sorted.{IsStrictlyIncreasing, IsStrictlySortedBy}
use Rattle.gf256.specs.Polynomial.{coef, val, IsPolynomial}
use Rattle.wire_frames.specs.Answer.{Answer}

-- the answers that stand in two slices: the indices, and the payloads of so many bytes one after another
abbrev pub answers_of : ℕ → List ℕ → List ℕ → List Answer
answers_of width [] bytes = []
answers_of width (index ∷ indices) bytes =
    record { index = index; payload = take width bytes } ∷ answers_of width indices (drop width bytes)

-- the answer at a place
abbrev pub answer_at : List Answer → ℕ → Answer
answer_at answers place = slice_index_or answers place (record { index = 0; payload = [] })

-- the answer's bytes are what the polynomials, one for each column, take at its index
abbrev pub Holds : List (List ℕ) → Answer → Type 0
Holds polynomials answer = answer.payload ≡ map (λ p. val p answer.index) polynomials

-- the block that the polynomials hide: their constants
abbrev pub constants_of : List (List ℕ) → List ℕ
constants_of polynomials = map (λ p. coef p 0) polynomials

-- some h answers, the same in every column, lie on polynomials of degree at most t, whose constants are the block
pub record Agreed (answers : List Answer) (width t h : ℕ) (block : List ℕ) : Type 0 where
  pub polynomials : List (List ℕ)
  pub places : List ℕ
  pub one_a_column : length polynomials ≡ width
  pub degree : All (IsPolynomial t) polynomials
  pub ascending : IsStrictlyIncreasing places
  pub within : All (λ p. p < length answers) places
  pub enough : h ≤ length places
  pub agree : All (λ p. Holds polynomials (answer_at answers p)) places
  pub constants : block ≡ constants_of polynomials

-- the agreed blocks, each once and ascending
pub record Lists (blocks : List (List ℕ)) (answers : List Answer) (width t h : ℕ) : Type 0 where
  pub ascending : IsStrictlySortedBy (slice_cmp nat_cmp) blocks
  pub sizes : All (λ b. length b ≡ width) blocks
  pub exact : (block : List ℕ) → Contains blocks block ↔ Agreed answers width t h block

-- each payload has so many bytes
abbrev pub Filled : ℕ → List Answer → Type 0
Filled width answers = All (λ a. length a.payload ≡ width) answers

-- payloads of so many bytes, from different indices
pub record HasColumns (width : ℕ) (answers : List Answer) : Type 0 where
  pub filled : Filled width answers
  pub bytes : All (λ a. All (λ b. b < 256) a.payload) answers
  pub indices : All (λ a. a.index < 256) answers
  pub different : AllPairs (λ a b. a.index ≢ b.index) answers

-- whether the answer's first bytes are what the polynomials, one for each of its first columns, take at its index
abbrev pub holds_first : List (List ℕ) → Answer → Bool
holds_first polynomials answer =
    bytes_eq (take (length polynomials) answer.payload) (map (λ p. val p answer.index) polynomials)

-- how many answers the polynomials hold at, in their first columns
abbrev pub weight : List (List ℕ) → List Answer → ℕ
weight polynomials answers = count_by (holds_first polynomials) answers

-- some polynomials of degree at most t, one for each column, hold at h answers, and their constants are the block
pub record Heavy (answers : List Answer) (width t h : ℕ) (block : List ℕ) : Type 0 where
  pub polynomials : List (List ℕ)
  pub one_a_column : length polynomials ≡ width
  pub degree : All (IsPolynomial t) polynomials
  pub enough : h ≤ weight polynomials answers
  pub constants : block ≡ constants_of polynomials
