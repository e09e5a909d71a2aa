-- The narrowing of answers to those that may agree, column by column.
use Rattle.std.specs.Prelude.{◌≡◌, ℕ, ◌+◌, ◌-◌, ◌*◌, ◌<◌, ◌≤◌, ◌⊎◌, List, [], ◌∷◌, ◌++◌, length, map, take, slice_index, All, AllPairs, Contains, ◌≢◌, ◌==◌, Bool}
use Rattle.std.specs.List.{filter}
use Rattle.gf256.specs.Polynomial.{val, IsPolynomial}
use Rattle.column_lists.specs.declared.TheConstants.{MOST_COST}
use Rattle.column_lists.specs.Numbers.{cost}
use Rattle.column_lists.specs.Agreement.{ListsAgreeing}
use Rattle.column_runs.specs.Close.{least_misses, EachMisses}
use Rattle.column_runs.specs.OnOne.{LieOnOne}
use Rattle.column_runs.specs.Rows.{lists_of}
use Rattle.column_runs.specs.Run.{IsRun}
use Rattle.wire_frames.specs.Answer.{Answer}
use Rattle.quantity_limits.specs.declared.TheConstants.{MOST_SERVERS}
use Rattle.block_decoder.specs.Agreed.{holds_first, weight, constants_of}
use Rattle.block_decoder.specs.Gains.{Gains}
use Rattle.block_decoder.specs.Decoding.{Counters}
use Rattle.block_decoder.specs.Lists.{NodesFrom, NodesBy}
use Rattle.block_decoder.specs.Numbers.{column_nodes}
use Rattle.block_decoder.specs.Report.{Agreement, indices_of}
use Rattle.block_decoder.specs.Vectors.{IsHeavyVector}
use Rattle.block_decoder.specs.declared.candidate.Candidate.{Candidate}
use Rattle.block_decoder.specs.declared.candidate.Parting.{Parting}
use Rattle.block_decoder.specs.declared.decoding.Decoding.{Decoding}

-- the answers at which the polynomials hold, in their first columns
abbrev pub holding : List (List ℕ) → List Answer → List Answer
holding polynomials answers = filter (holds_first polynomials) answers

-- the agreement that the polynomials make, one for each column: on their constants, of the answers at which they hold
abbrev pub agreement_on : List Answer → List (List ℕ) → Agreement
agreement_on answers polynomials =
    record { block = constants_of polynomials; indices = indices_of (holding polynomials answers) }

-- the points of a column: the index of each answer with its byte there
abbrev pub points_of : List Answer → ℕ → List (ℕ × ℕ)
points_of answers column = map (λ a. (a.index, slice_index a.payload column)) answers

-- whether the polynomial holds at the answer in a column: it takes the answer's byte there
abbrev pub holds_at : List ℕ → ℕ → Answer → Bool
holds_at polynomial column answer = val polynomial answer.index == slice_index answer.payload column

-- some of the answers: those that pass a test
pub record IsPart (answers part : List Answer) : Type 0 where
  pub test : Answer → Bool
  pub is : part ≡ filter test answers

-- answers of different servers whose points of a column can be list decoded, at no great cost
pub record CanBeListed (answers : List Answer) (t h : ℕ) : Type 0 where
  pub different : AllPairs (λ a b. a.index ≢ b.index) answers
  pub nonzero : All (λ a. a.index ≢ 0) answers
  pub few : length answers ≤ MOST_SERVERS
  pub some : 1 ≤ t
  pub redundant : t < h
  pub strong : length answers * t < h * h
  pub cheap : cost (length answers) t h ≤ MOST_COST

-- the agreement on k answers is strong enough for Johnson's bound
abbrev pub IsStrong : Decoding → ℕ → Type 0
IsStrong decoding k = k * decoding.degree < decoding.agreement * decoding.agreement

-- and k points of a column are not too costly
abbrev pub IsCheap : Decoding → ℕ → Type 0
IsCheap decoding k = cost k decoding.degree decoding.agreement ≤ MOST_COST

-- how many coefficients are fixed at most in looking for the polynomials of a column of k points
abbrev pub nodes_at : Decoding → ℕ → ℕ
nodes_at decoding k = column_nodes k decoding.degree decoding.agreement

-- and of a column of all answers
abbrev pub list_nodes : Decoding → ℕ
list_nodes decoding = nodes_at decoding (length decoding.answers)

-- the list has the polynomials of small degree that agree with enough of the points
abbrev pub ListsIn : Decoding → List (ℕ × ℕ) → List (List ℕ) → Type 0
ListsIn decoding points list = ListsAgreeing list points decoding.degree decoding.agreement

-- in n columns of these answers the points lie on one polynomial of degree at most t each, and the bytes are the constants
abbrev pub IsRunOf : List Answer → ℕ → ℕ → List ℕ → ℕ → Type 0
IsRunOf answers t column bytes n = IsRun (indices_of answers) (map (λ a. a.payload) answers) t column bytes n

-- polynomials of small degree, one for each of the first columns, whose constants begin the block, with the answers at which
-- they hold, of which there are enough
pub record IsCandidate (decoding : Decoding) (kept : List Answer) (column : ℕ) (block : List ℕ) : Type 0 where
  pub polynomials : List (List ℕ)
  pub one_a_column : length polynomials ≡ column
  pub degree : All (IsPolynomial decoding.degree) polynomials
  pub held : kept ≡ holding polynomials decoding.answers
  pub enough : decoding.agreement ≤ length kept
  pub constants : take column block ≡ constants_of polynomials

-- the polynomials can be continued, by one for each column that is left, to polynomials that hold at enough answers, and of
-- which this is made, as a block of their constants
pub record ContinuesFrom {X : Type 0} (made : List (List ℕ) → X) (decoding : Decoding) (polynomials : List (List ℕ)) (x : X) : Type 0 where
  pub more : List (List ℕ)
  pub one_a_column : length polynomials + length more ≡ decoding.width
  pub degree : All (IsPolynomial decoding.degree) more
  pub enough : decoding.agreement ≤ weight (polynomials ++ more) decoding.answers
  pub is : x ≡ made (polynomials ++ more)

-- the same where the next polynomial is one of these
pub record ContinuesBy {X : Type 0} (made : List (List ℕ) → X) (nexts : List (List ℕ)) (decoding : Decoding)
    (polynomials : List (List ℕ)) (x : X) : Type 0 where
  pub next : List ℕ
  pub listed : Contains nexts next
  pub continues : ContinuesFrom made decoding (polynomials ++ next ∷ []) x

-- one polynomial for each of the first columns, and together they hold at enough answers
abbrev pub IsHeavy : Decoding → List (List ℕ) → Type 0
IsHeavy decoding vector = IsHeavyVector decoding.answers (length vector) decoding.degree decoding.agreement vector

-- a vector of fewer polynomials than there are columns, which begins with these and is heavy
pub record IsVisited (decoding : Decoding) (polynomials vector : List (List ℕ)) : Type 0 where
  pub more : List (List ℕ)
  pub begins : vector ≡ polynomials ++ more
  pub short : length vector < decoding.width
  pub heavy : IsHeavy decoding vector

-- different such vectors
pub record AreVisited (decoding : Decoding) (polynomials : List (List ℕ)) (visited : List (List (List ℕ))) : Type 0 where
  pub different : AllPairs (λ v w. v ≢ w) visited
  pub each : All (IsVisited decoding polynomials) visited

-- no more columns were decoded than there are different such vectors, in none more nodes were counted than one list has, and
-- those of few lists in all
pub record CountsFrom (decoding : Decoding) (most : ℕ) (polynomials : List (List ℕ)) (before after : Counters) : Type 0 where
  pub visited : List (List (List ℕ))
  pub are : AreVisited decoding polynomials visited
  pub cols : after.cols ≤ before.cols + length visited
  pub lists : after.nodes ≤ before.nodes + length visited * most
  pub nodes : NodesFrom decoding most polynomials before.nodes after.nodes

-- the candidate has this part of the block
abbrev pub IsCandidateOf : Decoding → Candidate → List ℕ → Type 0
IsCandidateOf decoding candidate block = IsCandidate decoding candidate.kept.now candidate.column block

-- whatever came of it: what narrowing a candidate counted
pub record IsCounted (decoding : Decoding) (candidate : Candidate) (block : List ℕ) (before after : Counters) : Type 0 where
  pub counts : (c : IsCandidateOf decoding candidate block)
      → CountsFrom decoding (list_nodes decoding) c.polynomials before after
  pub cols : before.cols ≤ after.cols
  pub nodes : before.nodes ≤ after.nodes

-- what a narrowing has made so far: the block, the report, and how many columns it has decoded
pub record Progress : Type 0 where
  pub block : List ℕ
  pub report : List Agreement
  pub cols : ℕ

-- this block and this report after so many columns
abbrev pub progress : List ℕ → List Agreement → ℕ → Progress
progress block report cols = record { block = block; report = report; cols = cols }

-- a candidate was narrowed to the end: all agreements to which it can be continued were reported, its part of the block is as
-- it was, a column was decoded where one was left, and all that were left where an agreement was new
pub record IsExtended (decoding : Decoding) (candidate : Candidate) (before after : Progress) : Type 0 where
  pub block : take candidate.column after.block ≡ take candidate.column before.block
  pub exact : (c : IsCandidateOf decoding candidate before.block)
      → Gains (ContinuesFrom (agreement_on decoding.answers) decoding c.polynomials) before.report after.report
  pub some : candidate.column < decoding.width → before.cols < after.cols
  pub found : (after.report ≡ before.report) ⊎ (before.cols + (decoding.width - candidate.column) ≤ after.cols)

-- where there are several, a list proper was made, and the coefficients of one polynomial at least were fixed in it
abbrev pub Fixes : Decoding → ℕ → ℕ → ℕ → Type 0
Fixes decoding count before after = 1 < count → before + (decoding.degree + 1) ≤ after

-- so many agreements more at most, or those coefficients were fixed
abbrev pub Grew : Decoding → ℕ → List Agreement → List Agreement → ℕ → ℕ → Type 0
Grew decoding most old new before after =
    (length new ≤ length old + most) ⊎ (before + (decoding.degree + 1) ≤ after)

-- ---- what comes of the first polynomials of a column

-- a visited vector that begins with v and one of these polynomials
pub record IsVisitedBy (nexts : List (List ℕ)) (decoding : Decoding) (v vector : List (List ℕ)) : Type 0 where
  pub next : List ℕ
  pub listed : Contains nexts next
  pub visited : IsVisited decoding (v ++ next ∷ []) vector

-- no more columns were decoded than there are different such vectors, in none more nodes were counted than one list has, and
-- those of few lists in all
pub record CountsBy (nexts : List (List ℕ)) (decoding : Decoding) (most : ℕ) (v : List (List ℕ))
    (before after : Counters) : Type 0 where
  pub visited : List (List (List ℕ))
  pub different : AllPairs (λ v w. v ≢ w) visited
  pub each : All (IsVisitedBy nexts decoding v) visited
  pub cols : after.cols ≤ before.cols + length visited
  pub lists : after.nodes ≤ before.nodes + length visited * most
  pub nodes : NodesBy nexts decoding most v before.nodes after.nodes

-- the polynomials of the column in which answers part
abbrev pub nexts_of : Parting → List (List ℕ)
nexts_of parting = lists_of parting.polynomials.items

-- what was counted below a column's first polynomials
pub record TurnsCounted (nexts : List (List ℕ)) (decoding : Decoding) (parting : Parting) (block : List ℕ)
    (before after : Counters) : Type 0 where
  pub counts : (c : IsCandidateOf decoding parting.candidate block)
      → CountsBy nexts decoding (list_nodes decoding) c.polynomials before after
  pub cols : before.cols ≤ after.cols
  pub nodes : before.nodes ≤ after.nodes

-- the agreements below them
pub record TurnsGained (nexts : List (List ℕ)) (decoding : Decoding) (parting : Parting) (before after : Progress) : Type 0 where
  pub gains : (c : IsCandidateOf decoding parting.candidate before.block)
      → Gains (ContinuesBy (agreement_on decoding.answers) nexts decoding c.polynomials) before.report after.report
  pub found : (after.report ≡ before.report)
      ⊎ (before.cols + (decoding.width - (parting.candidate.column + 1)) ≤ after.cols)

-- a column in which the answers lie on no one polynomial, and all polynomials on which enough of them lie
pub record HaveParted (decoding : Decoding) (parting : Parting) : Type 0 where
  pub short : parting.candidate.column < decoding.width
  pub lists : ListsIn decoding (points_of parting.candidate.kept.now parting.candidate.column) (nexts_of parting)
  pub apart : ¬ LieOnOne (points_of parting.candidate.kept.now parting.candidate.column) decoding.degree

-- points of which many are off each polynomial of small degree, and so many that h can lie on one all the same
pub record AreFar (points : List (ℕ × ℕ)) (t h : ℕ) : Type 0 where
  pub each_misses : EachMisses (least_misses t h) points t
  pub enough : h + least_misses t h ≤ length points

-- points of a decoding of which that holds
abbrev pub AreFarIn : Decoding → List (ℕ × ℕ) → Type 0
AreFarIn decoding points = AreFar points decoding.degree decoding.agreement

-- whatever came of it: what was counted below the first of them
pub record HaveCounted (decoding : Decoding) (parting : Parting) (block : List ℕ) (before after : Counters) : Type 0 where
  pub count : ℕ
  pub counted : TurnsCounted (take count (nexts_of parting)) decoding parting block before after

-- all of them were followed to the end, and the columns before are as they were
pub record HaveExtended (decoding : Decoding) (parting : Parting) (before after : Progress) : Type 0 where
  pub block : take parting.candidate.column after.block ≡ take parting.candidate.column before.block
  pub gained : TurnsGained (nexts_of parting) decoding parting before after
