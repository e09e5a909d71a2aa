-- What asking all servers does.
use Rattle.std.specs.Prelude.{ℕ, ◌≡◌, ◌+◌, ◌⊎◌, ◌∷◌, List, [], length, None, Result, Ok, Err}
use Rattle.std.specs.Prelude.{slice_index_or}
use Rattle.port_trait.specs.World.{World}
use Rattle.port_trait.specs.Number.{COINS, link}
use Rattle.port_trait.specs.Moves.{Touches}
use Rattle.port_trait.specs.Whole.{FailsShort}
use Rattle.port_trait.specs.Each.{Each}
use Rattle.port_trait.specs.Tossed.{Tossed, RunsOut}
use Rattle.port_trait.specs.Touched.{One, From, TouchesOnly}
use Rattle.wire_frames.specs.Session.{Transcript}
use Rattle.query_rounds.specs.declared.gathering.Gathered.{Gathered}
use Rattle.query_rounds.specs.declared.plan.FetchFault.{FetchFault}
use Rattle.query_rounds.specs.declared.plan.FetchFault.TheVariants.{CoinsFault, CoinsEnded, Memory}
use Rattle.query_rounds.specs.Plan.{params_of}
use Rattle.query_rounds.specs.Queries.{Queries, request_of}
use Rattle.query_rounds.specs.Request.{Request, coins_needed}
use Rattle.query_rounds.specs.Sent.{reply_len, sent, session_number}
use Rattle.query_rounds.specs.Link.{LinkAsked}

-- each of the first n servers was asked, by its address, and the session has its record
abbrev pub AskedEach : Request → List ℕ → ℕ → Transcript → World → World → Type 0
AskedEach r coins n session old new =
    Each (λ i. LinkAsked (slice_index_or r.addresses i []) (sent r.plan r.blocks coins (i + 1)) (reply_len r)
    (slice_index_or session.records i None))
    (link 1) n old new

-- every server was asked, with these coins, and this is the session
pub record AsksAll (r : Request) (coins : List ℕ) (session : Transcript) (old new : World) : Type 0 where
  pub params : session.params ≡ params_of r.plan (length r.blocks) (session_number coins)
  pub whole : length session.records ≡ r.plan.n
  pub links : AskedEach r coins r.plan.n session old new

-- these coins were taken, and every server was asked with them, in this session
pub record AsksWith (r : Request) (coins : List ℕ) (session : Transcript) (old new : World) : Type 0 where
  pub tossed : Tossed (coins_needed r) coins (old.at COINS) (new.at COINS)
  pub asked : AsksAll r coins session old new

-- what taking the coins and asking every server answers, and what it did then. Without the coins no server is asked
abbrev pub AsksServers : Queries → Result (Unit {0}) FetchFault → Transcript → World → World → Type 0
AsksServers q (Ok _) session old new = AsksWith (request_of q) q.coins session old new
AsksServers q (Err CoinsFault) session old new =
    FailsShort COINS (coins_needed (request_of q)) old new × Touches COINS old new
AsksServers q (Err (CoinsEnded taken)) session old new =
    RunsOut (coins_needed (request_of q)) taken (old.at COINS) (new.at COINS) × Touches COINS old new
AsksServers q (Err Memory) session old new = ⊥

-- every server was asked, with some coins and in some session
pub record AsksSome (r : Request) (old new : World) : Type 0 where
  pub coins : List ℕ
  pub session : Transcript
  pub asked : AsksWith r coins session old new

-- these are queries for the request, with coins that were taken, and every server was asked in this session
pub record Gathers (r : Request) (queries : Queries) (session : Transcript) (old new : World) : Type 0 where
  pub request_is : request_of queries ≡ r
  pub asked : AsksWith r queries.coins session old new

-- what a fetch answers, of which P holds, and what it did then. Without the coins no server is asked
abbrev pub FetchesTo : {T : Type 0} → (T → World → World → Type 0) → Request → Result T FetchFault → World → World → Type 0
FetchesTo P r (Ok found) old new = P found old new
FetchesTo P r (Err CoinsFault) old new = FailsShort COINS (coins_needed r) old new × Touches COINS old new
FetchesTo P r (Err (CoinsEnded taken)) old new =
    RunsOut (coins_needed r) taken (old.at COINS) (new.at COINS) × Touches COINS old new
FetchesTo P r (Err Memory) old new = (new ≡ old) ⊎ AsksSome r old new

-- that of gathering what the servers answer to a request
abbrev pub GathersTo : Request → Result Gathered FetchFault → World → World → Type 0
GathersTo r = FetchesTo (λ all. Gathers r all.queries all.session) r

-- Coins and the first n links alone are touched
abbrev pub TouchesLinks : ℕ → World → World → Type 0
TouchesLinks n old new = TouchesOnly (One COINS ∷ From (link 1) n ∷ []) old new
