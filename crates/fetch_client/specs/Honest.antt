-- Honest servers: what they answer, and that a verdict has the block of the database that they hold, each the whole of it or
-- a share (Goldberg 2007; in the XOR scheme Chor, Goldreich, Kushilevitz and Sudan 1995).
use Rattle.std.specs.Prelude.{◌≡◌, ◌≢◌, ◌↔◌, ℕ, ◌+◌, ◌-◌, ◌*◌, ◌<◌, ◌≤◌, Bool, false, Option, None, Some, List, [], ◌∷◌, ◌++◌}
use Rattle.std.specs.Prelude.{length, slice_index, slice_index_or, Contains, count_by, bytes_eq}
use Rattle.std.specs.List.{range_with_len}
use Rattle.gf256.specs.Product.{IsMatrix, product}
use Rattle.wire_frames.specs.declared.session.SessionParams.{SessionParams}
use Rattle.wire_frames.specs.declared.scheme.TheConstants.{XOR}
use Rattle.wire_frames.specs.declared.scheme.Scheme.{Scheme}
use Rattle.wire_frames.specs.declared.scheme.Scheme.TheVariants.{Shamir, Xor}
use Rattle.wire_frames.specs.Scheme.{scheme_of}
use Rattle.wire_frames.specs.Header.{answer_header}
use Rattle.wire_frames.specs.Answer.{Answer, answers, asked}
use Rattle.wire_frames.specs.Session.{Transcript}
use Rattle.chor_xor.specs.Chosen.{chosen}
use Rattle.block_decoder.specs.Report.{Agreement}
use Rattle.block_decoder.specs.Text.{others}
use Rattle.block_decoder.specs.Verdict.{ListsAtMostOne}
use Rattle.block_decoder.specs.declared.verdict.Verdict.{Verdict}
use Rattle.block_decoder.specs.declared.verdict.Verdict.TheVariants.{Listed}
use Rattle.wire_frames.specs.Turns.{in_turn}
use Rattle.query_rounds.specs.Plan.{query_coins, with_degree}
use Rattle.fetch_client.specs.Held.{Holding, block_of, held_as, held_by}
use Rattle.query_rounds.specs.Sent.{vector_at}

-- the blocks with these numbers, one behind another
abbrev pub blocks_of : List (List ℕ) → List ℕ → List ℕ
blocks_of matrix blocks = in_turn (length blocks) (λ v. block_of matrix (slice_index blocks v))

-- what an honest server that holds the matrix answers to a vector of a query: the product of the two, and in the XOR scheme
-- the sum of the rows that the vector has
abbrev pub answer_in : Scheme → SessionParams → List (List ℕ) → List ℕ → List ℕ
answer_in Shamir p matrix payload = product matrix p.s payload
answer_in Xor p matrix payload = chosen (record { rows = matrix; width = p.s }) payload

-- what it answers in a session
unfoldable pub honest_answer : SessionParams → List (List ℕ) → List ℕ → List ℕ
honest_answer p matrix payload = answer_in (scheme_of p.scheme) p matrix payload

-- what honest server i answers in a session to the vector of its own query for block v of the list
abbrev pub answer_at : SessionParams → List (List ℕ) → List ℕ → List ℕ → ℕ → ℕ → List ℕ
answer_at p matrix coins blocks i v = honest_answer p matrix (vector_at p coins blocks i v)

-- what it answers to the query for all blocks
abbrev pub answer_by : SessionParams → List (List ℕ) → List ℕ → List ℕ → ℕ → List ℕ
answer_by p matrix coins blocks i = in_turn (length blocks) (answer_at p matrix coins blocks i)

-- the frame in which it answers: the header of status 0, and the answer
unfoldable pub honest_frame : SessionParams → List (List ℕ) → List ℕ → List ℕ → ℕ → List ℕ
honest_frame p matrix coins blocks i = answer_header (asked p i) 0 ++ answer_by p matrix coins blocks i

-- how many coins the shares of a database of that shape take: tau for each byte
abbrev pub AreShareCoins : SessionParams → ℕ → List ℕ → Type 0
AreShareCoins p tau share_coins = length share_coins ≡ p.r * p.s * tau

-- what server i answers to its query of degree t where it holds the matrix or, where tau isn't 0, its share of it
abbrev pub answer_held : SessionParams → ℕ → Holding → List ℕ → List ℕ → ℕ → List ℕ
answer_held p t holding coins blocks i =
    answer_by (with_degree t p) (held_by holding.tau holding.matrix p.s holding.share_coins i) coins blocks i

-- as many coins as queries of degree t for these blocks take in a session
abbrev pub AreQueryCoins : SessionParams → ℕ → List ℕ → List ℕ → Type 0
AreQueryCoins p t blocks coins = length coins ≡ length blocks * query_coins (with_degree t p)

-- at least h of a session's usable answers to queries of degree t are those of honest servers, each of which holds the matrix
-- or, where tau isn't 0, its share of it
pub record IsHonest (session : Transcript) (t : ℕ) (holding : Holding) (coins blocks : List ℕ) : Type 0 where
  pub matrix_is : IsMatrix holding.matrix session.params.r session.params.s
  pub shared : AreShareCoins session.params holding.tau holding.share_coins
  pub enough : session.params.h
      ≤ count_by (λ a. bytes_eq a.payload (answer_held session.params t holding coins blocks a.index)) (answers session)

-- whether a server's record is this frame
abbrev pub is_frame : List ℕ → Option (List ℕ) → Bool
is_frame frame None = false
is_frame frame (Some bytes) = bytes_eq bytes frame

-- the record of server i
abbrev pub record_by : Transcript → ℕ → Option (List ℕ)
record_by session i = slice_index_or session.records (i - 1) None

-- the frame of server i where it holds the matrix or, where tau isn't 0, its share of it
abbrev pub frame_held : SessionParams → ℕ → Holding → List ℕ → List ℕ → ℕ → List ℕ
frame_held p t holding coins blocks i =
    honest_frame (with_degree t p) (held_by holding.tau holding.matrix p.s holding.share_coins i) coins blocks i

-- at least h of a session's records are the frames of such servers
pub record HonestRecords (session : Transcript) (t : ℕ) (holding : Holding) (coins blocks : List ℕ) : Type 0 where
  pub matrix_is : IsMatrix holding.matrix session.params.r session.params.s
  pub shared : AreShareCoins session.params holding.tau holding.share_coins
  pub enough : session.params.h
      ≤ count_by (λ i. is_frame (frame_held session.params t holding coins blocks i) (record_by session i))
      (range_with_len 1 (length session.records))

-- each of the session's n records is the frame of an honest server that holds the matrix
pub record AllHonest (session : Transcript) (t : ℕ) (matrix : List (List ℕ)) (coins blocks : List ℕ) : Type 0 where
  pub matrix_is : IsMatrix matrix session.params.r session.params.s
  pub each : (i : ℕ) → 1 ≤ i → i ≤ session.params.n
      → record_by session i ≡ Some (honest_frame (with_degree t session.params) matrix coins blocks i)

-- 2 h > k + t, for k usable answers and the session's degree t: so no two blocks are agreed on
abbrev pub IsClose : Transcript → Type 0
IsClose session = length (answers session) + session.params.t < 2 * session.params.h

-- where the verdict lists blocks, this one is among them
abbrev pub ListsAmong : Verdict → List ℕ → Type 0
ListsAmong verdict block = (blocks : List (List ℕ)) → verdict ≡ Listed blocks → Contains blocks block

-- the verdict lists this block alone
abbrev pub ListsAlone : Verdict → List ℕ → Type 0
ListsAlone verdict block = verdict ≡ Listed (block ∷ [])

-- whatever the matrix that enough honest servers hold, or in shares of degree tau by whatever coins: where the verdict lists
-- blocks, the asked ones, as one, are among them, and where 2 h > k + t for the session's degree, the verdict lists that alone.
-- The same where enough records are the frames of such servers. Whatever the answers: where h <= k and 2 h > k + t, one block
-- is listed, or none. In the XOR scheme, where h is n, enough honest servers are all, and the verdict lists their block alone.
-- The queries have degree t, and the session the degree t + tau
pub record FindsHonestBlock (session : Transcript) (t tau : ℕ) (coins blocks : List ℕ) (verdict : Verdict) : Type 0 where
  pub listed : (matrix : List (List ℕ)) (share_coins : List ℕ) → IsHonest session t (held_as tau matrix share_coins) coins blocks
      → ListsAmong verdict (blocks_of matrix blocks)
  pub alone : (matrix : List (List ℕ)) (share_coins : List ℕ) → IsHonest session t (held_as tau matrix share_coins) coins blocks
      → IsClose session → ListsAlone verdict (blocks_of matrix blocks)
  pub close : session.params.h ≤ length (answers session) → IsClose session → ListsAtMostOne verdict
  pub listed_by_frames : (matrix : List (List ℕ)) (share_coins : List ℕ)
      → HonestRecords session t (held_as tau matrix share_coins) coins blocks → ListsAmong verdict (blocks_of matrix blocks)
  pub alone_by_frames : (matrix : List (List ℕ)) (share_coins : List ℕ)
      → HonestRecords session t (held_as tau matrix share_coins) coins blocks → IsClose session
      → ListsAlone verdict (blocks_of matrix blocks)
  pub xor : session.params.scheme ≡ XOR → (matrix : List (List ℕ)) (share_coins : List ℕ)
      → IsHonest session t (held_as tau matrix share_coins) coins blocks → ListsAlone verdict (blocks_of matrix blocks)
  pub xor_by_frames : session.params.scheme ≡ XOR → (matrix : List (List ℕ)) → AllHonest session t matrix coins blocks
      → ListsAlone verdict (blocks_of matrix blocks)

-- there is one agreement, on the asked blocks, as one; and exactly the usable answers that aren't those of honest servers that
-- hold the matrix, or their shares of it, are not among it
pub record TellsLiars (session : Transcript) (t : ℕ) (holding : Holding) (coins blocks : List ℕ) (agreements : List Agreement)
    : Type 0 where
  pub one : Agreement
  pub alone : agreements ≡ one ∷ []
  pub block : one.block ≡ blocks_of holding.matrix blocks
  pub exact : (a : Answer) → Contains (answers session) a → Contains (others one.indices (answers session)) a.index
      ↔ (a.payload ≢ answer_held session.params t holding coins blocks a.index)

-- whatever the matrix that enough honest servers hold, or in shares of degree tau by whatever coins
abbrev pub NamesLiars : Transcript → ℕ → ℕ → List ℕ → List ℕ → List Agreement → Type 0
NamesLiars session t tau coins blocks agreements = (matrix : List (List ℕ)) (share_coins : List ℕ)
    → IsHonest session t (held_as tau matrix share_coins) coins blocks
    → TellsLiars session t (held_as tau matrix share_coins) coins blocks agreements

-- so it is with a report beside a verdict, where 2 h > k + t for the session's degree
abbrev pub NamesLiarsIn : Transcript → ℕ → ℕ → List ℕ → List ℕ → Option (List Agreement) → Type 0
NamesLiarsIn session t tau coins blocks report = (agreements : List Agreement) → report ≡ Some agreements
    → IsClose session → NamesLiars session t tau coins blocks agreements
