-- One more query.
use Rattle.std.proofs.Common.{◌≡◌, ◌∙◌, ℕ, suc, ◌+◌, ◌<◌, List, [], ◌∷◌, ◌++◌, length, None, Option, Some, slice_index_or, All, refl, ap, subst, arith}
use Rattle.std.specs.Option.{option_or}
use Rattle.port_trait.specs.World.{Cell, World}
use Rattle.port_trait.specs.Number.{link}
use Rattle.wire_frames.specs.Sizes.{answer_len}
use Rattle.wire_frames.specs.Session.{Transcript}
use Rattle.query_rounds.specs.declared.plan.FetchPlan.{FetchPlan}
use Rattle.query_rounds.specs.Link.{LinkAsked}
use Rattle.query_rounds.specs.Request.{request}
use Rattle.query_rounds.specs.Gathered.{AskedEach, AsksWith}
use Rattle.list_finds.specs.Found.{first_unlisted, unlisted_of}
use Rattle.list_finds.specs.Queries.{AreOutcomes, AskEach, AskedInTurn, IsOutcome, IsQuery, Outcome, Query, frame_in}
use Rattle.list_finds.specs.Wanted.{Wanted, keys_of, rows_of}
use Rattle.list_finds.specs.declared.finds.Unlisted.{Unlisted}

-- the query with this number, by these coins, in this session
abbrev pub query_of : Wanted → ℕ → List ℕ → Transcript → Query
query_of w number coins session =
    record { keys = keys_of w number; rows = rows_of w (keys_of w number); coins = coins; session = session }

-- one more query has its outcome
pub outcomes_more : (w : Wanted) (number count : ℕ) (queries : List Query) (outcomes : List Outcome) (q : Query) (outcome : Outcome)
    → AreOutcomes w number queries outcomes → number + length queries ≡ count → IsQuery w count q → IsOutcome w q outcome
    → AreOutcomes w number (queries ++ q ∷ []) (outcomes ++ outcome ∷ [])
outcomes_more w number count [] [] q outcome are is query comes =
    let here : count ≡ number = omega (arith, is) in (subst (λ (n : ℕ). IsQuery w n q) here query, comes, tt)
outcomes_more w number count [] (o ∷ outcomes) q outcome are is query comes = absurd are
outcomes_more w number count (p ∷ queries) [] q outcome are is query comes = absurd are
outcomes_more w number count (p ∷ queries) (o ∷ outcomes) q outcome are is query comes =
    (are.0, are.1, outcomes_more w (number + 1) count queries outcomes q outcome are.2 (omega (arith, is)) query comes)

-- as many outcomes as queries
pub as_many : (w : Wanted) (number : ℕ) (queries : List Query) (outcomes : List Outcome) → AreOutcomes w number queries outcomes
    → length outcomes ≡ length queries
as_many w number [] [] are = refl
as_many w number [] (o ∷ outcomes) are = absurd are
as_many w number (p ∷ queries) [] are = absurd are
as_many w number (p ∷ queries) (o ∷ outcomes) are = ap suc (as_many w (number + 1) queries outcomes are.2)

-- the first such session, of one more
pub first_unlisted-more : (w : Wanted) (number : ℕ) (queries : List Query) (outcomes : List Outcome) (q : Query) (outcome : Outcome)
    → AreOutcomes w number queries outcomes
    → first_unlisted (queries ++ q ∷ []) (outcomes ++ outcome ∷ [])
    ≡ option_or (first_unlisted queries outcomes) (unlisted_of q.session outcome.verdict)
first_unlisted-more w number [] [] q outcome are = or_none (unlisted_of q.session outcome.verdict)
  where
    or_none : (o : Option Unlisted) → option_or o None ≡ o
    or_none None = refl
    or_none (Some u) = refl
first_unlisted-more w number [] (o ∷ outcomes) q outcome are = absurd are
first_unlisted-more w number (p ∷ queries) [] q outcome are = absurd are
first_unlisted-more w number (p ∷ queries) (o ∷ outcomes) q outcome are =
    ap (option_or (unlisted_of p.session o.verdict)) (first_unlisted-more w (number + 1) queries outcomes q outcome are.2)
    ∙ or_both (unlisted_of p.session o.verdict) (first_unlisted queries outcomes) (unlisted_of q.session outcome.verdict)
  where
    or_both : (a b c : Option Unlisted) → option_or a (option_or b c) ≡ option_or (option_or a b) c
    or_both None b c = refl
    or_both (Some u) b c = refl

-- a link is asked once more
asked_more : (p : FetchPlan) (address : List ℕ) (i : ℕ) (queries : List Query) (q : Query) (old mid new : Cell)
    → AskedInTurn p address i queries old mid
    → LinkAsked address (frame_in p (i + 1) q) (answer_len (length q.rows) p.s) (slice_index_or q.session.records i None) mid new
    → AskedInTurn p address i (queries ++ q ∷ []) old new
asked_more p address i [] q old mid new asked last = (
  new,
  (
    subst (λ (c : Cell). LinkAsked address (frame_in p (i + 1) q) (answer_len (length q.rows) p.s)
        (slice_index_or q.session.records i None) c new) asked last,
    refl,
  ),
)
asked_more p address i (r ∷ queries) q old mid new asked last =
    (asked.0, (asked.1.0, asked_more p address i queries q asked.0 mid new asked.1.1 last))

-- no link was asked yet
pub ask_each_none : (w : Wanted) (v : World) → AskEach w [] v v
ask_each_none w v = record { each = λ i l. refl }

-- each link is asked once more
pub ask_each_more : (w : Wanted) (queries : List Query) (q : Query) (old mid new : World) → AskEach w queries old mid
    → AskedEach (request w.plan q.rows w.addresses) q.coins w.plan.n q.session mid new
    → AskEach w (queries ++ q ∷ []) old new
ask_each_more w queries q old mid new asked last = record {
  each = λ i l. asked_more w.plan (slice_index_or w.addresses i []) i queries q
      (old.at (link 1 + i)) (mid.at (link 1 + i)) (new.at (link 1 + i)) (asked.each i l) (last.each i l);
}

-- what a fetch that asked every server is
pub query_is : (w : Wanted) (number : ℕ) (coins : List ℕ) (session : Transcript) (old new : World)
    → All (λ b. b < w.plan.r) (rows_of w (keys_of w number))
    → AsksWith (request w.plan (rows_of w (keys_of w number)) w.addresses) coins session old new
    → IsQuery w number (query_of w number coins session)
query_is w number coins session old new within asks = record {
  keys = refl;
  rows = refl;
  within = within;
  size = asks.tossed.size;
  bytes = asks.tossed.bytes;
  params = asks.asked.params;
  whole = asks.asked.whole;
}
