-- What a look-up does.
use Rattle.std.specs.Prelude.{◌≡◌, ℕ, ◌+◌, ◌*◌, ◌%◌, ◌<◌, ◌≤◌, ◌⊎◌, ◌++◌, List, [], ◌∷◌, length, map, take, fold, IfSome, Result, Ok, Err}
use Rattle.port_trait.specs.World.{Cell, World}
use Rattle.port_trait.specs.Number.{COINS}
use Rattle.port_trait.specs.Moves.{RoseOnce, took, counted}
use Rattle.block_decoder.specs.declared.verdict.Verdict.{Verdict}
use Rattle.query_rounds.specs.declared.plan.FetchPlan.{FetchPlan}
use Rattle.query_rounds.specs.declared.plan.FetchFault.{FetchFault}
use Rattle.query_rounds.specs.declared.plan.FetchFault.TheVariants.{CoinsFault, CoinsEnded, Memory}
use Rattle.query_rounds.specs.Plan.{need}
use Rattle.key_search.specs.Standing.{Standing, asked_row, standing_after, standing_at_start, turns_of}
use Rattle.key_search.specs.Answers.{AreSortedByKey}
use Rattle.key_fetches.specs.KeyRequest.{KeyRequest}
use Rattle.key_fetches.specs.Listed.{Ended, end_among, end_by, only_block}
use Rattle.key_fetches.specs.Rounds.{AreJudged, AskEach, IsRound, ListRowsAsked, Round, TossedFor, coins_of}
use Rattle.key_fetches.specs.Sent.{TakeFrames}

-- the search of a look-up before its first turn
abbrev pub at_start : FetchPlan → List ℕ → Standing
at_start p key = standing_at_start p.r p.s key

-- the search after these verdicts
abbrev pub standing_by_verdicts : FetchPlan → List ℕ → List Verdict → Standing
standing_by_verdicts p key verdicts = fold standing_after (at_start p key) (map only_block verdicts)

-- some fetches of a look-up, with their verdicts, each of which asked every server
pub record Fetched (r : KeyRequest) (rounds : List Round) (verdicts : List Verdict) (old new : World) : Type 0 where
  pub judged : AreJudged r.plan (at_start r.plan r.key) rounds verdicts
  pub links : AskEach r.plan r.addresses rounds old new
  pub frames : TakeFrames r.plan rounds old new

-- a fetch was made in each turn, and this is what they came to. Where the verdicts list the rows that were asked for, of
-- rows that ascend by their keys, it is the row with the key
pub record LookedUp (r : KeyRequest) (ended : Ended) (first : Cell) (old new : World) : Type 0 where
  pub rounds : List Round
  pub verdicts : List Verdict
  pub turns : length rounds ≡ turns_of r.plan.r
  pub fetched : Fetched r rounds verdicts old new
  pub coins : TossedFor r.plan (turns_of r.plan.r) rounds first new
  pub ends : ended ≡ end_by r.key verdicts
  pub row : (rows : List (List ℕ)) → length rows ≡ r.plan.r → AreSortedByKey r.key rows → ListRowsAsked rows rounds verdicts
      → ended ≡ end_among r.key rows

-- so many coins were taken, and then a call on the port failed, before those of one more fetch were whole
pub record FailsNext (each : ℕ) (coins : List ℕ) (old new : Cell) : Type 0 where
  pub n : ℕ
  pub fewer : n < each
  pub cell : new ≡ counted new.faults (took (length coins + n) old)
  pub told : IfSome old.holds (λ held. (coins ≡ take (length coins) held) × (length coins + n ≤ length held))
  pub rose : RoseOnce old.faults new.faults

-- so many coins were taken, and then the port ended after n of one more fetch
pub record EndsNext (each n : ℕ) (coins : List ℕ) (old new : Cell) : Type 0 where
  pub fewer : n < each
  pub cell : new ≡ took (length coins + n) old
  pub told : IfSome old.holds (λ held. (coins ≡ take (length coins) held) × (length held ≡ length coins + n))

-- fewer fetches were made than there are turns, when a call on Coins failed
pub record LookUpUnread (r : KeyRequest) (first : Cell) (old new : World) : Type 0 where
  pub rounds : List Round
  pub verdicts : List Verdict
  pub fewer : length rounds < turns_of r.plan.r
  pub fetched : Fetched r rounds verdicts old new
  pub coins : FailsNext (need r.plan 1) (coins_of rounds) first (new.at COINS)

-- how many coins there were: fewer than all turns need, and these are what the fetches left of them
pub record TooFewHeld (p : FetchPlan) (taken : ℕ) (held : List ℕ) : Type 0 where
  pub fewer : length held < turns_of p.r * need p 1
  pub rest : taken ≡ length held % need p 1

-- fewer fetches were made than there are turns, when Coins ended
pub record LookUpShort (r : KeyRequest) (taken : ℕ) (first : Cell) (old new : World) : Type 0 where
  pub rounds : List Round
  pub verdicts : List Verdict
  pub fewer : length rounds < turns_of r.plan.r
  pub fetched : Fetched r rounds verdicts old new
  pub coins : EndsNext (need r.plan 1) taken (coins_of rounds) first (new.at COINS)
  pub held : IfSome first.holds (TooFewHeld r.plan taken)

-- one more fetch asked every server, and has no verdict
pub record AskedInVain (r : KeyRequest) (rounds : List Round) (verdicts : List Verdict) (first : Cell) (old new : World) : Type 0 where
  pub last : Round
  pub fewer : length rounds < turns_of r.plan.r
  pub asked : IsRound r.plan (asked_row (standing_by_verdicts r.plan r.key verdicts)) last
  pub links : AskEach r.plan r.addresses (rounds ++ last ∷ []) old new
  pub frames : TakeFrames r.plan (rounds ++ last ∷ []) old new
  pub coins : TossedFor r.plan (length rounds + 1) (rounds ++ last ∷ []) first new

-- memory ran out after some fetches: before a server was asked in one more, or when all were
pub record LookUpUnfinished (r : KeyRequest) (first : Cell) (old new : World) : Type 0 where
  pub rounds : List Round
  pub verdicts : List Verdict
  pub few : length rounds ≤ turns_of r.plan.r
  pub judged : AreJudged r.plan (at_start r.plan r.key) rounds verdicts
  pub part : (Fetched r rounds verdicts old new × TossedFor r.plan (length rounds) rounds first new)
      ⊎ AskedInVain r rounds verdicts first old new

-- what a look-up answers, and what it did then, where Coins was this at first
abbrev pub LooksUp : KeyRequest → Result Ended FetchFault → Cell → World → World → Type 0
LooksUp r (Ok ended) first old new = LookedUp r ended first old new
LooksUp r (Err CoinsFault) first old new = LookUpUnread r first old new
LooksUp r (Err (CoinsEnded taken)) first old new = LookUpShort r taken first old new
LooksUp r (Err Memory) first old new = LookUpUnfinished r first old new
