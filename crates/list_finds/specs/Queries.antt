-- The queries of a search, one after the other.
use Rattle.std.specs.Prelude.{◌≡◌, ℕ, ◌+◌, ◌<◌, List, [], ◌∷◌, length, flat_map, All, ⊤, slice_index_or, None}
use Rattle.port_trait.specs.World.{Cell, World}
use Rattle.port_trait.specs.Number.{link}
use Rattle.port_trait.specs.Each.{Each}
use Rattle.wire_frames.specs.Sizes.{answer_len}
use Rattle.wire_frames.specs.Session.{Transcript}
use Rattle.block_decoder.specs.declared.verdict.Verdict.{Verdict}
use Rattle.block_decoder.specs.Verdict.{IsVerdict}
use Rattle.query_rounds.specs.declared.plan.FetchPlan.{FetchPlan}
use Rattle.query_rounds.specs.Plan.{need, params_of}
use Rattle.query_rounds.specs.Sent.{sent, session_number, queries_from}
use Rattle.query_rounds.specs.Link.{LinkAsked}
use Rattle.fetch_client.specs.Honest.{FindsHonestBlock}
use Rattle.key_fetches.specs.Listed.{only_block}
use Rattle.list_finds.specs.Answers.{AreAnswers}
use Rattle.list_finds.specs.Wanted.{Wanted, keys_of, rows_of}
use Rattle.list_finds.specs.declared.answers.Answer.{Answer}

-- one query: its keys, the rows that it asks for, its piece of the coins, and its session
pub record Query : Type 0 where
  pub keys : List (List ℕ)
  pub rows : List ℕ
  pub coins : List ℕ
  pub session : Transcript

-- what came of it: the verdict on its session, and the answers to its keys
pub record Outcome : Type 0 where
  pub verdict : Verdict
  pub answers : List (Answer (List ℕ))

-- this is the query with that number: it asks for the rows of its keys, which the table has, with as many coins as they
-- need, in a session that has the coins' number and a record of each server
pub record IsQuery (w : Wanted) (number : ℕ) (q : Query) : Type 0 where
  pub keys : q.keys ≡ keys_of w number
  pub rows : q.rows ≡ rows_of w q.keys
  pub within : All (λ b. b < w.plan.r) q.rows
  pub size : length q.coins ≡ need w.plan (length q.rows)
  pub bytes : All (λ b. b < 256) q.coins
  pub params : q.session.params ≡ params_of w.plan (length q.rows) (session_number q.coins)
  pub whole : length q.session.records ≡ w.plan.n

-- and this came of it: the verdict on the session, which has the rows of honest servers, and what that says of each key
pub record IsOutcome (w : Wanted) (q : Query) (outcome : Outcome) : Type 0 where
  pub judged : IsVerdict q.session outcome.verdict
  pub found : FindsHonestBlock q.session w.plan.t w.plan.tau (queries_from q.coins) q.rows outcome.verdict
  pub answers : AreAnswers w.list w.plan.r w.plan.s (only_block outcome.verdict) q.keys outcome.answers

-- these are the queries from a number on, and what came of them
abbrev pub AreOutcomes : Wanted → ℕ → List Query → List Outcome → Type 0
AreOutcomes w number [] [] = ⊤
AreOutcomes w number [] (outcome ∷ outcomes) = ⊥
AreOutcomes w number (q ∷ queries) [] = ⊥
AreOutcomes w number (q ∷ queries) (outcome ∷ outcomes) =
    IsQuery w number q × IsOutcome w q outcome × AreOutcomes w (number + 1) queries outcomes

-- the coins of all queries, piece by piece
abbrev pub coins_of : List Query → List ℕ
coins_of queries = flat_map (λ q. q.coins) queries

-- the frame that server i is sent in a query
abbrev pub frame_in : FetchPlan → ℕ → Query → List ℕ
frame_in p i q = sent p q.rows q.coins i

-- in each query in turn the link was opened by its address and sent the frame of this server, counted from 0, and the
-- session has the record of it: the next bytes that the link handed out
abbrev pub AskedInTurn : FetchPlan → List ℕ → ℕ → List Query → Cell → Cell → Type 0
AskedInTurn p address i [] old new = new ≡ old
AskedInTurn p address i (q ∷ queries) old new =
    (between : Cell) × (LinkAsked address (frame_in p (i + 1) q) (answer_len (length q.rows) p.s)
    (slice_index_or q.session.records i None) old between × AskedInTurn p address i queries between new)

-- the same of the link to each server
abbrev pub AskEach : Wanted → List Query → World → World → Type 0
AskEach w queries old new =
    Each (λ i. AskedInTurn w.plan (slice_index_or w.addresses i []) i queries) (link 1) w.plan.n old new
