-- What a fetch does.
use Rattle.std.specs.Prelude.{ℕ, ◌≡◌, ◌+◌, ◌*◌, ◌≤◌, Bool, true, List, length, Option, Result, Ok, Err, IfOk}
use Rattle.port_trait.specs.World.{World}
use Rattle.wire_frames.specs.declared.scheme.TheConstants.{SHAMIR, XOR}
use Rattle.wire_frames.specs.Answer.{answers}
use Rattle.wire_frames.specs.Session.{Transcript}
use Rattle.block_decoder.specs.Decoding.{Counters}
use Rattle.block_decoder.specs.Numbers.{most_columns, most_nodes}
use Rattle.block_decoder.specs.Report.{Agreement}
use Rattle.block_decoder.specs.Reported.{IsReportOn}
use Rattle.block_decoder.specs.Verdict.{IsVerdict, least_coefficients, least_columns}
use Rattle.block_decoder.specs.declared.verdict.Verdict.{Verdict}
use Rattle.query_rounds.specs.declared.plan.FetchPlan.{FetchPlan}
use Rattle.query_rounds.specs.declared.plan.FetchFault.{FetchFault}
use Rattle.query_rounds.specs.declared.plan.FetchFault.TheVariants.{CoinsFault, CoinsEnded, Memory}
use Rattle.query_rounds.specs.Gathered.{AsksWith, FetchesTo, TouchesLinks}
use Rattle.query_rounds.specs.Request.{Request}
use Rattle.query_rounds.specs.Sent.{queries_from}
use Rattle.fetch_client.specs.Honest.{FindsHonestBlock, NamesLiarsIn}

-- every server was asked, with some coins, in this session; this is its verdict, which has the block of honest servers
pub record Concludes (r : Request) (session : Transcript) (verdict : Verdict) (old new : World) : Type 0 where
  pub coins : List ℕ
  pub asked : AsksWith r coins session old new
  pub judged : IsVerdict session verdict
  pub found : FindsHonestBlock session r.plan.t r.plan.tau (queries_from coins) r.blocks verdict

-- the same, with the report beside the verdict, which names those who lied
pub record ConcludesWhole (r : Request) (found : Transcript × Verdict × Option (List Agreement)) (old new : World) : Type 0 where
  pub concludes : Concludes r found.0 found.1 old new
  pub report : IsReportOn found.0 found.1 found.2
  pub liars : NamesLiarsIn found.0 r.plan.t r.plan.tau (queries_from concludes.coins) r.blocks found.2

-- the first, and where the report is wanted the second too
pub record ConcludesWith (wanted : Bool) (r : Request) (found : Transcript × Verdict × Option (List Agreement))
    (old new : World) : Type 0 where
  pub concludes : Concludes r found.0 found.1 old new
  pub reports : wanted ≡ true → ConcludesWhole r found old new

-- what a fetch of a request answers, and what it did then: that of a session and its verdict
abbrev pub Fetches : Request → Result (Transcript × Verdict) FetchFault → World → World → Type 0
Fetches r = FetchesTo (λ both. Concludes r both.0 both.1) r

-- that of a session, its verdict, and the report beside that
abbrev pub FetchesWhole : Request → Result (Transcript × Verdict × Option (List Agreement)) FetchFault → World → World → Type 0
FetchesWhole r = FetchesTo (ConcludesWhole r) r

-- that of a session, its verdict, and the report, where that is wanted; and Coins and the links alone are touched
pub record FetchesWith (wanted : Bool) (r : Request) (result : Result (Transcript × Verdict × Option (List Agreement)) FetchFault)
    (old new : World) : Type 0 where
  pub fetched : FetchesTo (ConcludesWith wanted r) r result old new
  pub others : TouchesLinks r.plan.n old new

-- how many steps judging so many answers of a fetch takes, where `most` bounds these for answers, a degree, an agreement and a
-- width
abbrev pub steps_for : (ℕ → ℕ → ℕ → ℕ → ℕ) → FetchPlan → List ℕ → ℕ → ℕ
steps_for most p blocks answers = most answers (p.t + p.tau) p.h (length blocks * p.s)

-- no more steps are counted than judging some answers takes, of which there are no more than servers
pub record CountsForSome (most : ℕ → ℕ) (servers before now : ℕ) : Type 0 where
  pub answers : ℕ
  pub few : answers ≤ servers
  pub bounded : now ≤ before + most answers

-- how many steps are counted at most: as many as judging the usable answers of this session takes; where memory ran out,
-- as many as judging some answers takes; and without the coins none
abbrev pub FetchCountsOf : {T : Type 0} → (T → Transcript) → (ℕ → ℕ) → ℕ → Result T FetchFault → ℕ → ℕ → Type 0
FetchCountsOf session_of most servers (Ok found) before now = now ≤ before + most (length (answers (session_of found)))
FetchCountsOf session_of most servers (Err CoinsFault) before now = now ≡ before
FetchCountsOf session_of most servers (Err (CoinsEnded taken)) before now = now ≡ before
FetchCountsOf session_of most servers (Err Memory) before now = CountsForSome most servers before now

-- of a session and its verdict
abbrev pub FetchCounts : (ℕ → ℕ → ℕ → ℕ → ℕ) → FetchPlan → List ℕ → Result (Transcript × Verdict) FetchFault → ℕ → ℕ → Type 0
FetchCounts most p blocks = FetchCountsOf (λ both. both.0) (steps_for most p blocks) p.n

-- of a session, its verdict, and the report beside that
abbrev pub FetchCountsWhole : (ℕ → ℕ → ℕ → ℕ → ℕ) → FetchPlan → List ℕ
    → Result (Transcript × Verdict × Option (List Agreement)) FetchFault → ℕ → ℕ → Type 0
FetchCountsWhole most p blocks = FetchCountsOf (λ found. found.0) (steps_for most p blocks) p.n

-- at least as many columns are decoded as the verdict of Shamir's scheme takes
abbrev pub CountsListed : {T : Type 0} → (T → Verdict) → FetchPlan → List ℕ → Result T FetchFault → ℕ → ℕ → Type 0
CountsListed verdict_of p blocks result before now = p.scheme ≡ SHAMIR
    → IfOk result (λ found. before + least_columns (length blocks * p.s) (verdict_of found) ≤ now)

-- and at least as many coefficients are fixed
abbrev pub CountsSeveral : {T : Type 0} → (T → Verdict) → FetchPlan → Result T FetchFault → ℕ → ℕ → Type 0
CountsSeveral verdict_of p result before now = p.scheme ≡ SHAMIR
    → IfOk result (λ found. before + least_coefficients (p.t + p.tau) (verdict_of found) ≤ now)

-- how many steps a fetch takes
pub record CountsSteps (p : FetchPlan) (blocks : List ℕ) (result : Result (Transcript × Verdict × Option (List Agreement)) FetchFault)
    (before now : Counters) : Type 0 where
  pub cols : FetchCountsWhole most_columns p blocks result before.cols now.cols
  pub nodes : FetchCountsWhole most_nodes p blocks result before.nodes now.nodes
  pub least : before.cols ≤ now.cols
  pub least_nodes : before.nodes ≤ now.nodes
  pub listed : CountsListed (λ found. found.1) p blocks result before.cols now.cols
  pub several : CountsSeveral (λ found. found.1) p result before.nodes now.nodes
  pub xor : p.scheme ≡ XOR → (now.cols ≡ before.cols) × (now.nodes ≡ before.nodes)
