-- What a search does, and what it comes to.
use Rattle.std.specs.Prelude.{◌≡◌, ℕ, ◌<◌, ◌≤◌, ◌⊎◌, ◌++◌, List, [], ◌∷◌, length, flat_map, Option, Some, None, IfSome, is_none, if◌then◌else◌, Result, Ok, Err}
use Rattle.std.specs.Option.{option_or}
use Rattle.port_trait.specs.World.{Cell, World}
use Rattle.port_trait.specs.Number.{COINS}
use Rattle.port_trait.specs.Tossed.{Tossed}
use Rattle.wire_frames.specs.Session.{Transcript}
use Rattle.block_decoder.specs.declared.verdict.Verdict.{Verdict}
use Rattle.query_rounds.specs.declared.plan.FetchFault.{FetchFault}
use Rattle.query_rounds.specs.declared.plan.FetchFault.TheVariants.{CoinsFault, CoinsEnded, Memory}
use Rattle.query_rounds.specs.Plan.{need}
use Rattle.key_fetches.specs.Listed.{only_block}
use Rattle.key_fetches.specs.LookedUp.{EndsNext, FailsNext}
use Rattle.list_finds.specs.Queries.{AreOutcomes, AskEach, IsQuery, Outcome, Query, coins_of}
use Rattle.list_finds.specs.Wanted.{Wanted, coins_wanted, keys_of, queries_for, rows_of}
use Rattle.list_finds.specs.declared.answers.Answer.{Answer}
use Rattle.list_finds.specs.declared.finds.Unlisted.{Unlisted}

-- a session with its verdict, where that doesn't list exactly one block
abbrev pub unlisted_of : Transcript → Verdict → Option Unlisted
unlisted_of session verdict =
    if is_none (only_block verdict) then Some (record { session = session; verdict = verdict }) else None

-- the first of the queries whose verdict doesn't list exactly one block
abbrev pub first_unlisted : List Query → List Outcome → Option Unlisted
first_unlisted [] outcomes = None
first_unlisted (q ∷ queries) [] = None
first_unlisted (q ∷ queries) (outcome ∷ outcomes) =
    option_or (unlisted_of q.session outcome.verdict) (first_unlisted queries outcomes)

-- what a search came to: the answer to each key, and the first verdict that didn't list exactly one block, with its
-- session, if there was one
pub record Come : Type 0 where
  pub answers : List (Answer (List ℕ))
  pub unlisted : Option Unlisted

-- what it comes to by its queries
abbrev pub come_of : List Query → List Outcome → Come
come_of queries outcomes =
    record { answers = flat_map (λ o. o.answers) outcomes; unlisted = first_unlisted queries outcomes }

-- the first queries, with what came of them, each of which asked every server
pub record Asked (w : Wanted) (queries : List Query) (outcomes : List Outcome) (old new : World) : Type 0 where
  pub outcomes_are : AreOutcomes w 0 queries outcomes
  pub links : AskEach w queries old new

-- their coins were taken from Coins as it was at first
abbrev pub TossedFor : List Query → Cell → World → Type 0
TossedFor queries first new = Tossed (length (coins_of queries)) (coins_of queries) first (new.at COINS)

-- all queries were asked, and this is what they came to
pub record FoundAll (w : Wanted) (come : Come) (first : Cell) (old new : World) : Type 0 where
  pub queries : List Query
  pub outcomes : List Outcome
  pub all : length queries ≡ queries_for w
  pub asked : Asked w queries outcomes old new
  pub coins : Tossed (coins_wanted w) (coins_of queries) first (new.at COINS)
  pub comes : come ≡ come_of queries outcomes
  pub each : length come.answers ≡ length w.keys

-- how many coins the query takes that comes behind these
abbrev pub next_need : Wanted → List Query → ℕ
next_need w queries = need w.plan (length (rows_of w (keys_of w (length queries))))

-- fewer queries were asked than there are, when a call on Coins failed
pub record FindUnread (w : Wanted) (first : Cell) (old new : World) : Type 0 where
  pub queries : List Query
  pub outcomes : List Outcome
  pub fewer : length queries < queries_for w
  pub asked : Asked w queries outcomes old new
  pub coins : FailsNext (next_need w queries) (coins_of queries) first (new.at COINS)

-- fewer queries were asked than there are, when Coins ended: it had fewer coins than all of them take
pub record FindShort (w : Wanted) (taken : ℕ) (first : Cell) (old new : World) : Type 0 where
  pub queries : List Query
  pub outcomes : List Outcome
  pub fewer : length queries < queries_for w
  pub asked : Asked w queries outcomes old new
  pub coins : EndsNext (next_need w queries) taken (coins_of queries) first (new.at COINS)
  pub held : IfSome first.holds (λ held. length held < coins_wanted w)

-- one more query asked every server, and has no verdict
pub record AskedInVain (w : Wanted) (queries : List Query) (first : Cell) (old new : World) : Type 0 where
  pub last : Query
  pub fewer : length queries < queries_for w
  pub is_query : IsQuery w (length queries) last
  pub links : AskEach w (queries ++ last ∷ []) old new
  pub coins : TossedFor (queries ++ last ∷ []) first new

-- memory ran out after some queries: before a server was asked in one more, or when all were
pub record FindUnfinished (w : Wanted) (first : Cell) (old new : World) : Type 0 where
  pub queries : List Query
  pub outcomes : List Outcome
  pub few : length queries ≤ queries_for w
  pub outcomes_are : AreOutcomes w 0 queries outcomes
  pub part : (Asked w queries outcomes old new × TossedFor queries first new) ⊎ AskedInVain w queries first old new

-- what a search answers, and what it did then, where Coins was this at first
abbrev pub FindsKeys : Wanted → Result Come FetchFault → Cell → World → World → Type 0
FindsKeys w (Ok come) first old new = FoundAll w come first old new
FindsKeys w (Err CoinsFault) first old new = FindUnread w first old new
FindsKeys w (Err (CoinsEnded taken)) first old new = FindShort w taken first old new
FindsKeys w (Err Memory) first old new = FindUnfinished w first old new
