-- Who agrees: the blocks on which enough answers agree (Goldberg 2007), each with all answers that agree on it.
use Rattle.std.specs.Prelude.{◌≡◌, ℕ, ◌≤◌, ◌↔◌, List, length, map, All, Contains, Bool, bytes_eq}
use Rattle.std.specs.Cmp.Lexicographic.{slice_cmp}
use Rattle.std.specs.List.{filter}
use Rattle.std.specs.List.Sorted.{IsStrictlySortedBy}
use Rattle.std.specs.Ordering.{nat_cmp, on, then_cmp}
use Rattle.std.specs.declared.cmp.Ordering.{Ordering}
use Rattle.gf256.specs.Polynomial.{val, IsPolynomial}
use Rattle.wire_frames.specs.Answer.{Answer}
use Rattle.block_decoder.specs.Agreed.{constants_of, Lists}

-- a block, and the indices of the answers that agree on it
pub record Agreement : Type 0 where
  pub block : List ℕ
  pub indices : List ℕ

-- whether the answer's bytes are what the polynomials, one for each column, take at its index
abbrev pub holds : List (List ℕ) → Answer → Bool
holds polynomials answer = bytes_eq answer.payload (map (λ p. val p answer.index) polynomials)

-- the indices of the answers
abbrev pub indices_of : List Answer → List ℕ
indices_of answers = map (λ a. a.index) answers

-- it is on this block, of these answers
abbrev pub IsAgreementOf : List ℕ → List Answer → Agreement → Type 0
IsAgreementOf block answers agreement = agreement ≡ record { block = block; indices = indices_of answers }

-- some polynomials of degree at most t, one for each column: their constants are the block, and the indices are those of all
-- answers at which they hold, which are h or more
pub record IsAgreement (answers : List Answer) (width t h : ℕ) (agreement : Agreement) : Type 0 where
  pub polynomials : List (List ℕ)
  pub one_a_column : length polynomials ≡ width
  pub degree : All (IsPolynomial t) polynomials
  pub block : agreement.block ≡ constants_of polynomials
  pub indices : agreement.indices ≡ indices_of (filter (holds polynomials) answers)
  pub enough : h ≤ length agreement.indices

-- by their blocks, and where these are one by their indices, both as byte strings
abbrev pub agreement_cmp : Agreement → Agreement → Ordering
agreement_cmp = then_cmp (on (λ a. a.block) (slice_cmp nat_cmp)) (on (λ a. a.indices) (slice_cmp nat_cmp))

-- every agreement, each once and ascending
pub record IsReport (answers : List Answer) (width t h : ℕ) (agreements : List Agreement) : Type 0 where
  pub ascending : IsStrictlySortedBy agreement_cmp agreements
  pub exact : (a : Agreement) → Contains agreements a ↔ IsAgreement answers width t h a

-- the blocks are those of the agreements
abbrev pub HasBlocks : List (List ℕ) → List Agreement → Type 0
HasBlocks blocks agreements = (block : List ℕ) → Contains blocks block ↔ Contains (map (λ a. a.block) agreements) block

-- it has the blocks of the listing of the same answers
abbrev pub HasListedBlocks : List Answer → ℕ → ℕ → ℕ → List Agreement → Type 0
HasListedBlocks answers width t h agreements =
    (blocks : List (List ℕ)) → Lists blocks answers width t h → HasBlocks blocks agreements
