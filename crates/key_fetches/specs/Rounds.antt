-- The fetches of a look-up, one after the other.
use Rattle.std.specs.Prelude.{◌≡◌, ℕ, ◌+◌, ◌*◌, ◌<◌, List, [], ◌∷◌, length, flat_map, All, ⊤, slice_index_or, slice_get, None}
use Rattle.port_trait.specs.World.{Cell, World}
use Rattle.port_trait.specs.Number.{COINS, link}
use Rattle.port_trait.specs.Each.{Each}
use Rattle.wire_frames.specs.Sizes.{answer_len}
use Rattle.wire_frames.specs.Session.{Transcript}
use Rattle.block_decoder.specs.declared.verdict.Verdict.{Verdict}
use Rattle.block_decoder.specs.Verdict.{IsVerdict}
use Rattle.query_rounds.specs.declared.plan.FetchPlan.{FetchPlan}
use Rattle.query_rounds.specs.Plan.{need, params_of}
use Rattle.query_rounds.specs.Sent.{sent, session_number, queries_from}
use Rattle.port_trait.specs.Tossed.{Tossed}
use Rattle.query_rounds.specs.Link.{LinkAsked}
use Rattle.fetch_client.specs.Honest.{FindsHonestBlock}
use Rattle.key_search.specs.Standing.{Standing, asked_row, standing_after}
use Rattle.key_fetches.specs.Listed.{only_block}

-- one fetch: the row that is asked for, its piece of the coins, and its session
pub record Round : Type 0 where
  pub row : ℕ
  pub coins : List ℕ
  pub session : Transcript

-- this row of the database is asked for, with as many coins as one needs, in a session that has their number and a record of each server
pub record IsRound (p : FetchPlan) (row : ℕ) (round : Round) : Type 0 where
  pub row_is : round.row ≡ row
  pub low : round.row < p.r
  pub size : length round.coins ≡ need p 1
  pub bytes : All (λ b. b < 256) round.coins
  pub params : round.session.params ≡ params_of p 1 (session_number round.coins)
  pub whole : length round.session.records ≡ p.n

-- and this is the verdict on the session, which has the row of honest servers
pub record IsJudged (p : FetchPlan) (row : ℕ) (round : Round) (verdict : Verdict) : Type 0 where
  pub round_is : IsRound p row round
  pub judged : IsVerdict round.session verdict
  pub found : FindsHonestBlock round.session p.t p.tau (queries_from round.coins) (round.row ∷ []) verdict

-- each fetch asks for the row that a search asks for which stands like this, and which is told the one block that each
-- verdict lists, or that it lists none or several
abbrev pub AreJudged : FetchPlan → Standing → List Round → List Verdict → Type 0
AreJudged p s [] [] = ⊤
AreJudged p s [] (verdict ∷ verdicts) = ⊥
AreJudged p s (round ∷ rounds) [] = ⊥
AreJudged p s (round ∷ rounds) (verdict ∷ verdicts) =
    IsJudged p (asked_row s) round verdict × AreJudged p (standing_after s (only_block verdict)) rounds verdicts

-- each verdict lists, alone, the row that was asked for, of these rows
abbrev pub ListRowsAsked : List (List ℕ) → List Round → List Verdict → Type 0
ListRowsAsked rows [] [] = ⊤
ListRowsAsked rows [] (verdict ∷ verdicts) = ⊥
ListRowsAsked rows (round ∷ rounds) [] = ⊥
ListRowsAsked rows (round ∷ rounds) (verdict ∷ verdicts) =
    (only_block verdict ≡ slice_get rows round.row) × ListRowsAsked rows rounds verdicts

-- the coins of all fetches, piece by piece
abbrev pub coins_of : List Round → List ℕ
coins_of rounds = flat_map (λ round. round.coins) rounds

-- these coins were taken, for so many fetches, from Coins as it was at first
abbrev pub TossedFor : FetchPlan → ℕ → List Round → Cell → World → Type 0
TossedFor p count rounds first new = Tossed (count * need p 1) (coins_of rounds) first (new.at COINS)

-- the frame that server i is sent in a fetch
abbrev pub frame_in : FetchPlan → ℕ → Round → List ℕ
frame_in p i round = sent p (round.row ∷ []) round.coins i

-- in each fetch in turn the link was opened by its address and sent the frame of this server, counted from 0, and the
-- session has the record of it: the next bytes that the link handed out
abbrev pub AskedInTurn : FetchPlan → List ℕ → ℕ → List Round → Cell → Cell → Type 0
AskedInTurn p address i [] old new = new ≡ old
AskedInTurn p address i (round ∷ rounds) old new =
    (between : Cell) × (LinkAsked address (frame_in p (i + 1) round) (answer_len 1 p.s)
    (slice_index_or round.session.records i None) old between × AskedInTurn p address i rounds between new)

-- the same of the link to each server
abbrev pub AskEach : FetchPlan → List (List ℕ) → List Round → World → World → Type 0
AskEach p addresses rounds old new = Each (λ i. AskedInTurn p (slice_index_or addresses i []) i rounds) (link 1) p.n old new
