-- What a look-up did, over what others did before it and after it, and left the links as they were.
use Rattle.std.proofs.Common.{◌≡◌, ℕ, ◌+◌, ◌*◌, ◌<◌, List, [], ◌∷◌, ◌++◌, slice_index_or, inl, inr, sym, subst}
use Rattle.std.specs.Prelude.{Err, Ok, Result}
use Rattle.port_trait.specs.World.{Cell, World}
use Rattle.port_trait.specs.Number.{COINS, link}
use Rattle.port_trait.proofs.Ranges.{each_within}
use Rattle.block_decoder.specs.declared.verdict.Verdict.{Verdict}
use Rattle.query_rounds.specs.declared.plan.FetchPlan.{FetchPlan}
use Rattle.query_rounds.specs.declared.plan.FetchFault.{FetchFault}
use Rattle.query_rounds.specs.declared.plan.FetchFault.TheVariants.{CoinsFault, CoinsEnded, Memory}
use Rattle.query_rounds.specs.Plan.{need}
use Rattle.port_trait.specs.Tossed.{Tossed}
use Rattle.key_fetches.specs.KeyRequest.{KeyRequest}
use Rattle.key_fetches.specs.Listed.{Ended}
use Rattle.key_fetches.specs.Rounds.{AskEach, AskedInTurn, Round, TossedFor, coins_of}
use Rattle.key_fetches.specs.LookedUp.{EndsNext, FailsNext, Fetched, LookedUp, LooksUp}
use Rattle.key_fetches.proofs.Frames.{take_frames}

module _ (r : KeyRequest) (first : Cell) (w v u z : World)
    (before : (i : ℕ) → i < r.plan.n → v.at (link 1 + i) ≡ w.at (link 1 + i))
    (after : (i : ℕ) → i < r.plan.n → z.at (link 1 + i) ≡ u.at (link 1 + i)) (still : z.at COINS ≡ u.at COINS) where
  abbrev p : FetchPlan
  p = r.plan

  abbrev addresses : List (List ℕ)
  addresses = r.addresses

  asked : (rounds : List Round) → AskEach p addresses rounds v u → AskEach p addresses rounds w z
  asked rounds h =
      each_within (λ i. AskedInTurn p (slice_index_or addresses i []) i rounds) (link 1) p.n w v u z before after h

  fetched : (rounds : List Round) (verdicts : List Verdict) → Fetched r rounds verdicts v u
      → Fetched r rounds verdicts w z
  fetched rounds verdicts h =
      let links = asked rounds h.links in
      record { judged = h.judged; links = links; frames = take_frames p addresses rounds w z links }

  tossed : (count : ℕ) (rounds : List Round) → TossedFor p count rounds first u → TossedFor p count rounds first z
  tossed count rounds h = subst (λ (c : Cell). Tossed (count * need p 1) (coins_of rounds) first c) (sym still) h

  looked_within : (ended : Ended) → LookedUp r ended first v u → LookedUp r ended first w z
  looked_within ended h = record {
    rounds = h.rounds;
    verdicts = h.verdicts;
    turns = h.turns;
    fetched = fetched h.rounds h.verdicts h.fetched;
    coins = tossed _ h.rounds h.coins;
    ends = h.ends;
    row = h.row;
  }

  -- whatever the look-up answers
  pub looks_within : (result : Result Ended FetchFault) → LooksUp r result first v u → LooksUp r result first w z
  looks_within (Ok ended) h = looked_within ended h
  looks_within (Err CoinsFault) h = record {
    rounds = h.rounds;
    verdicts = h.verdicts;
    fewer = h.fewer;
    fetched = fetched h.rounds h.verdicts h.fetched;
    coins = subst (λ (c : Cell). FailsNext (need p 1) (coins_of h.rounds) first c) (sym still) h.coins;
  }
  looks_within (Err (CoinsEnded taken)) h = record {
    rounds = h.rounds;
    verdicts = h.verdicts;
    fewer = h.fewer;
    fetched = fetched h.rounds h.verdicts h.fetched;
    coins = subst (λ (c : Cell). EndsNext (need p 1) taken (coins_of h.rounds) first c) (sym still) h.coins;
    held = h.held;
  }
  looks_within (Err Memory) h = record {
    rounds = h.rounds;
    verdicts = h.verdicts;
    few = h.few;
    judged = h.judged;
    part = elim h.part [
      | inl done ↦ inl (fetched h.rounds h.verdicts done.0, tossed _ h.rounds done.1)
      | inr vain ↦
          let links = asked (h.rounds ++ vain.last ∷ []) vain.links in
          inr record {
            last = vain.last;
            fewer = vain.fewer;
            asked = vain.asked;
            links = links;
            frames = take_frames p addresses (h.rounds ++ vain.last ∷ []) w z links;
            coins = tossed _ (h.rounds ++ vain.last ∷ []) vain.coins;
          }
    ];
  }
