-- A search from its first query to its last.
use Rattle.std.proofs.Common.{◌≡◌, ◌∙◌, ◌⊎◌, inl, inr, ℕ, ◌+◌, ◌*◌, ◌<◌, ◌≤◌, min, List, [], ◌∷◌, ◌++◌, length, take, slice_index_or, All, Option, Some, None, refl, sym, ap, ap₂, subst, length-append, mul-le-mul_right, arith}
use Rattle.std.specs.Prelude.{Err, IfSome, flat_map}
use Rattle.std.specs.Option.{option_or}
use Rattle.std.proofs.lemmas.Grind.{flat_map-append}
use Rattle.std.proofs.lemmas.List.{append-nil, length-map}
use Rattle.port_trait.specs.World.{Cell, World}
use Rattle.port_trait.specs.Number.{COINS, link}
use Rattle.port_trait.specs.Moves.{Touches}
use Rattle.port_trait.specs.Tossed.{RunsOut, Tossed}
use Rattle.port_trait.specs.Whole.{FailsShort}
use Rattle.port_trait.proofs.Ranges.{each_after}
use Rattle.wire_frames.specs.Session.{Transcript}
use Rattle.block_decoder.specs.declared.verdict.Verdict.{Verdict}
use Rattle.query_rounds.specs.declared.coins.TheConstants.{NUMBER_LEN}
use Rattle.query_rounds.specs.declared.plan.FetchFault.{FetchFault}
use Rattle.query_rounds.specs.declared.plan.FetchFault.TheVariants.{CoinsFault, CoinsEnded, Memory}
use Rattle.query_rounds.specs.Gathered.{AsksSome}
use Rattle.query_rounds.specs.Plan.{IsPlan, need}
use Rattle.query_rounds.specs.Request.{Request, request}
use Rattle.query_rounds.specs.Sent.{vector_coins}
use Rattle.fetch_client.specs.Fetched.{Concludes, Fetches}
use Rattle.key_fetches.specs.LookedUp.{EndsNext}
use Rattle.key_fetches.specs.Listed.{only_block}
use Rattle.list_finds.specs.Found.{Asked, AskedInVain, Come, FindShort, FindUnfinished, FindUnread, FindsKeys, FoundAll, TossedFor, first_unlisted, next_need, unlisted_of}
use Rattle.list_finds.specs.Held.{Held}
use Rattle.list_finds.specs.Known.{row_in}
use Rattle.list_finds.specs.Queries.{AreOutcomes, AskEach, AskedInTurn, IsQuery, Outcome, Query, coins_of}
use Rattle.list_finds.specs.Told.{Tells}
use Rattle.list_finds.specs.Wanted.{Wanted, coins_wanted, keys_each, keys_of, queries_for, rows_of}
use Rattle.list_finds.specs.declared.answers.Answer.{Answer}
use Rattle.list_finds.specs.declared.finds.Unlisted.{Unlisted}
use Rattle.list_finds.proofs.Asking.{ask_each_more, ask_each_none, first_unlisted-more, outcomes_more, query_is, query_of}
use Rattle.list_finds.proofs.Coins.{coins_of-more, ends_next, fails_next, none_tossed, tossed_next}
use Rattle.list_finds.proofs.Pieces.{asked-more, begins_within, ends_behind, length-piece}

-- so many queries were asked: the answers to their keys are told, and the first verdict that didn't list exactly one block is kept
pub record InQueries (w : Wanted) (count : ℕ) (held : Held) (unlisted : Option Unlisted) (first : Cell) (old new : World)
    : Type 0 where
  pub queries : List Query
  pub outcomes : List Outcome
  pub count_is : length queries ≡ count
  pub outcomes_are : AreOutcomes w 0 queries outcomes
  pub links : AskEach w queries old new
  pub coins : TossedFor queries first new
  pub coins_size : length (coins_of queries) ≡ count * NUMBER_LEN + length held.answers * vector_coins w.plan
  pub answers_are : held.answers ≡ flat_map (λ o. o.answers) outcomes
  pub told : length held.answers ≡ min (count * keys_each w.plan.s) (length w.keys)
  pub room : held.room + length held.answers ≡ length w.keys
  pub most : held.most ≡ w.list.most
  pub unlisted_is : unlisted ≡ first_unlisted queries outcomes

-- before the first query
pub queries_none : (w : Wanted) (held : Held) (v : World) → held.answers ≡ [] → held.room ≡ length w.keys → held.most ≡ w.list.most
    → InQueries w 0 held None (v.at COINS) v v
queries_none w held v none room most = record {
  queries = [];
  outcomes = [];
  count_is = refl;
  outcomes_are = tt;
  links = ask_each_none w v;
  coins = none_tossed v;
  coins_size = let e = ap (λ (l : List (Answer (List ℕ))). length l * vector_coins w.plan) none in omega (arith, e);
  answers_are = none;
  told = let e = ap length none in omega (arith, e);
  room = let e = ap length none in omega (arith, e, room);
  most = most;
  unlisted_is = refl;
}

module _ (w : Wanted) (count : ℕ) (held : Held) (unlisted : Option Unlisted) (first : Cell) (old mid new : World)
    (h : InQueries w count held unlisted first old mid) (some : 1 ≤ keys_each w.plan.s) (fewer : count < queries_for w)
    (low : All (λ b. b < w.plan.r) (rows_of w (keys_of w count))) where
  abbrev keys : List (List ℕ)
  keys = keys_of w count

  -- what the fetch of this query asks for
  abbrev asks_for : Request
  asks_for = request w.plan (rows_of w keys) w.addresses

  within : count * keys_each w.plan.s < length w.keys
  within = begins_within (length w.keys) (keys_each w.plan.s) count some fewer

  -- its keys are asked for behind those so far
  pub next_told : length held.answers + length keys ≡ min ((count + 1) * keys_each w.plan.s) (length w.keys)
  next_told =
      let size = length-piece w.keys (keys_each w.plan.s) count in
      let more = asked-more (length w.keys) (keys_each w.plan.s) count within in
      let so_far = h.told in
      omega (arith, size, more, so_far)

  -- there is room for their answers
  pub next_room : length keys ≤ held.room
  next_room = let next = next_told in let r = h.room in omega (arith, next, r)

  -- the coins of the queries so far and of this one
  next_coins : (count + 1) * NUMBER_LEN + (length held.answers + length keys) * vector_coins w.plan
      ≡ length (coins_of h.queries) + need w.plan (length (rows_of w keys))
  next_coins =
      let parts : (length held.answers + length keys) * vector_coins w.plan ≡ length held.answers * vector_coins w.plan + length keys * vector_coins w.plan =
      omega arith in
      let rows = ap (λ (n : ℕ). n * vector_coins w.plan) (length-map keys (row_in w.list w.plan.r)) in
      let so_far = h.coins_size in
      omega (arith, parts, rows, so_far)

  -- one query more
  pub queries_more : (session : Transcript) (verdict : Verdict) (next : Held) (kept : Option Unlisted)
      → Concludes asks_for session verdict mid new → Tells w.list w.plan.r w.plan.s (only_block verdict) keys held next
      → kept ≡ option_or unlisted (unlisted_of session verdict) → InQueries w (count + 1) next kept first old new
  queries_more session verdict next kept asks tells keeps =
      let q = query_of w count asks.coins session in
      let outcome : Outcome = record { verdict = verdict; answers = tells.told } in
      let queries = h.queries ++ q ∷ [] in
      let lengths : length next.answers ≡ length held.answers + length keys =
      ap length tells.answers ∙ length-append held.answers tells.told ∙ ap (λ (n : ℕ). length held.answers + n) tells.are.count in
      let size : length (coins_of queries) ≡ length (coins_of h.queries) + need w.plan (length (rows_of w keys)) =
      ap length (coins_of-more h.queries q) ∙ length-append (coins_of h.queries) asks.coins
      ∙ ap (λ (n : ℕ). length (coins_of h.queries) + n) asks.asked.tossed.size in
      record {
        queries = queries;
        outcomes = h.outcomes ++ outcome ∷ [];
        count_is = length-append h.queries (q ∷ []) ∙ ap (λ (n : ℕ). n + 1) h.count_is;
        outcomes_are = outcomes_more w 0 count h.queries h.outcomes q outcome h.outcomes_are (let c = h.count_is in omega (arith, c))
            (query_is w count asks.coins session mid new low asks.asked)
            (record { judged = asks.judged; found = asks.found; answers = tells.are });
        links = ask_each_more w h.queries q old mid new h.links asks.asked.asked.links;
        coins = tossed_next h.queries q (need w.plan (length (rows_of w keys))) first mid new h.coins asks.asked.tossed;
        coins_size = size ∙ sym next_coins
            ∙ ap (λ (n : ℕ). (count + 1) * NUMBER_LEN + n * vector_coins w.plan) (sym lengths);
        answers_are = tells.answers
            ∙ ap₂ (λ (a b : List (Answer (List ℕ))). a ++ b) h.answers_are (sym (append-nil tells.told))
            ∙ sym (flat_map-append (λ (o : Outcome). o.answers) h.outcomes (outcome ∷ []));
        told = lengths ∙ next_told;
        room = let r = tells.room in let s = h.room in omega (arith, r, s, lengths);
        most = tells.most ∙ h.most;
        unlisted_is = keeps ∙ ap (λ (o : Option Unlisted). option_or o (unlisted_of session verdict)) h.unlisted_is
            ∙ sym (first_unlisted-more w 0 h.queries h.outcomes q outcome h.outcomes_are);
      }

  -- the queries before, where nothing but Coins was touched after them
  before : IsPlan w.plan → Touches COINS mid new → Asked w h.queries h.outcomes old new
  before plan touch = record {
    outcomes_are = h.outcomes_are;
    links = each_after (λ i. AskedInTurn w.plan (slice_index_or w.addresses i []) i h.queries) (link 1) w.plan.n COINS old mid new
        (omega (arith, plan.numbers.few_servers)) (inl (omega arith)) h.links touch;
  }

  -- how many coins this query takes
  need_is : need w.plan (length (rows_of w keys)) ≡ next_need w h.queries
  need_is = ap (λ (n : ℕ). need w.plan (length (rows_of w (keys_of w n)))) (sym h.count_is)

  -- a call on Coins failed
  ends_unread : IsPlan w.plan → FailsShort COINS (need w.plan (length (rows_of w keys))) mid new → Touches COINS mid new
      → FindUnread w first old new
  ends_unread plan failed touch = record {
    queries = h.queries;
    outcomes = h.outcomes;
    fewer = let c = h.count_is in omega (arith, fewer, c);
    asked = before plan touch;
    coins = fails_next (next_need w h.queries) h.queries first mid new h.coins
        (subst (λ (n : ℕ). FailsShort COINS n mid new) need_is failed);
  }

  -- fewer coins than these and those of this query are fewer than all queries take
  too_few : (n : ℕ) (o : Option (List ℕ)) → n < need w.plan (length (rows_of w keys))
      → IfSome o (λ coins. length coins ≡ length (coins_of h.queries) + n) → IfSome o (λ coins. length coins < coins_wanted w)
  too_few n None less told = tt
  too_few n (Some coins) less told =
      let sum = next_coins in
      let most : (length held.answers + length keys) * vector_coins w.plan ≤ length w.keys * vector_coins w.plan =
      mul-le-mul_right (vector_coins w.plan) (let r = next_room in let s = h.room in omega (arith, r, s)) in
      omega (arith, sum, most, fewer, less, told)

  -- Coins ended
  ends_short : (taken : ℕ) → IsPlan w.plan → RunsOut (need w.plan (length (rows_of w keys))) taken (mid.at COINS) (new.at COINS)
      → Touches COINS mid new → FindShort w taken first old new
  ends_short taken plan short touch =
      let ended = ends_next (need w.plan (length (rows_of w keys))) taken h.queries first mid new h.coins short in
      record {
        queries = h.queries;
        outcomes = h.outcomes;
        fewer = let c = h.count_is in omega (arith, fewer, c);
        asked = before plan touch;
        coins = subst (λ (n : ℕ). EndsNext n taken (coins_of h.queries) first (new.at COINS)) need_is ended;
        held = too_few taken first.holds short.fewer (second first.holds ended.told);
      }
    where
      second : (o : Option (List ℕ)) → IfSome o (λ held. (coins_of h.queries ≡ take (length (coins_of h.queries)) held)
          × (length held ≡ length (coins_of h.queries) + taken))
          → IfSome o (λ held. length held ≡ length (coins_of h.queries) + taken)
      second None told = tt
      second (Some held) told = told.1

  -- memory ran out
  ends_unfinished : (new ≡ mid) ⊎ AsksSome asks_for mid new → FindUnfinished w first old new
  ends_unfinished how = record {
    queries = h.queries;
    outcomes = h.outcomes;
    few = let c = h.count_is in omega (arith, fewer, c);
    outcomes_are = h.outcomes_are;
    part = elim how [ inl same ↦ inl (stopped same) | inr asks ↦ inr (in_vain asks) ];
  }
    where
      stopped : new ≡ mid → Asked w h.queries h.outcomes old new × TossedFor h.queries first new
      stopped same =
          subst (λ (v : World). Asked w h.queries h.outcomes old v × TossedFor h.queries first v) (sym same)
          (record { outcomes_are = h.outcomes_are; links = h.links }, h.coins)

      in_vain : AsksSome asks_for mid new → AskedInVain w h.queries first old new
      in_vain asks =
          let q = query_of w count asks.coins asks.session in
          record {
            last = q;
            fewer = let c = h.count_is in omega (arith, fewer, c);
            is_query = subst (λ (n : ℕ). IsQuery w n q) (sym h.count_is) (query_is w count asks.coins asks.session mid new low asks.asked);
            links = ask_each_more w h.queries q old mid new h.links asks.asked.asked.links;
            coins = tossed_next h.queries q (need w.plan (length (rows_of w keys))) first mid new h.coins asks.asked.tossed;
          }

  -- a fetch failed
  pub ends_by_fault : (fault : FetchFault) → IsPlan w.plan → Fetches asks_for (Err fault) mid new
      → FindsKeys w (Err fault) first old new
  ends_by_fault CoinsFault plan fetched = ends_unread plan fetched.0 fetched.1
  ends_by_fault (CoinsEnded taken) plan fetched = ends_short taken plan fetched.0 fetched.1
  ends_by_fault Memory plan fetched = ends_unfinished fetched

-- after all queries
pub found_all : (w : Wanted) (count : ℕ) (held : Held) (unlisted : Option Unlisted) (first : Cell) (old new : World)
    → InQueries w count held unlisted first old new → 1 ≤ keys_each w.plan.s → count ≡ queries_for w
    → FoundAll w (record { answers = held.answers; unlisted = unlisted }) first old new
found_all w count held unlisted first old new h some all =
    let whole : length w.keys ≤ count * keys_each w.plan.s =
    subst (λ (n : ℕ). length w.keys ≤ n * keys_each w.plan.s) (sym all) (ends_behind (length w.keys) (keys_each w.plan.s) some) in
    let each : length held.answers ≡ length w.keys = let t = h.told in omega (arith, t, whole) in
    let size : length (coins_of h.queries) ≡ coins_wanted w =
    h.coins_size ∙ ap₂ (λ (c n : ℕ). c * NUMBER_LEN + n * vector_coins w.plan) all each in
    record {
      queries = h.queries;
      outcomes = h.outcomes;
      all = h.count_is ∙ all;
      asked = record { outcomes_are = h.outcomes_are; links = h.links };
      coins = subst (λ (n : ℕ). Tossed n (coins_of h.queries) first (new.at COINS)) size h.coins;
      comes = ap₂ (λ (answers : List (Answer (List ℕ))) (u : Option Unlisted). come answers u) h.answers_are h.unlisted_is;
      each = each;
    }
  where
    come : List (Answer (List ℕ)) → Option Unlisted → Come
    come answers u = record { answers = answers; unlisted = u }
