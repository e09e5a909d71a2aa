-- A look-up from its first turn to its last.
use Rattle.std.proofs.Common.{◌≡◌, ◌∙◌, inl, inr, ◌⊎◌, ℕ, ◌+◌, ◌*◌, ◌<◌, ◌≤◌, false, List, [], ◌∷◌, ◌++◌, length, map, take, slice_index_or, Option, Some, None, refl, sym, ap, ap₂, subst, length-append, arith}
use Rattle.std.specs.Prelude.{Err, IfSome, fold, is_some}
use Rattle.std.proofs.lemmas.List.{map-append}
use Rattle.std.proofs.lemmas.List.Elements.{All-nil}
use Rattle.std.proofs.lemmas.List.Sums.{fold-append}
use Rattle.std.specs.Option.{option_or}
use Rattle.port_trait.specs.World.{Cell, World}
use Rattle.port_trait.specs.Number.{COINS, link}
use Rattle.port_trait.specs.Moves.{Touches}
use Rattle.port_trait.specs.Whole.{FailsShort}
use Rattle.port_trait.proofs.Cells.{took_none}
use Rattle.port_trait.proofs.Ranges.{each_after}
use Rattle.wire_frames.specs.declared.scheme.TheConstants.{SHAMIR}
use Rattle.wire_frames.specs.Session.{Transcript}
use Rattle.block_decoder.specs.declared.verdict.Verdict.{Verdict}
use Rattle.query_rounds.specs.declared.plan.FetchPlan.{FetchPlan}
use Rattle.query_rounds.specs.declared.plan.FetchFault.{FetchFault}
use Rattle.query_rounds.specs.declared.plan.FetchFault.TheVariants.{CoinsFault, CoinsEnded, Memory}
use Rattle.query_rounds.specs.Plan.{IsPlan, need}
use Rattle.query_rounds.specs.Request.{Request, request}
use Rattle.port_trait.specs.Tossed.{RunsOut, Tossed}
use Rattle.query_rounds.specs.Gathered.{AsksSome}
use Rattle.fetch_client.specs.Fetched.{Concludes, Fetches}
use Rattle.query_rounds.specs.Sent.{session_number}
use Rattle.key_search.specs.Standing.{Standing, asked_row, standing_after, standing_at_start, turns_of}
use Rattle.key_search.specs.Answers.{AreRowsAsked, AreSortedByKey, IsLookUp, WasTold, row_with, rows_told, start_of}
use Rattle.key_search.proofs.ByAnswers.{IsNextTurn-from, found-told, lost-told}
use Rattle.key_search.proofs.LookUp.{found-from}
use Rattle.key_fetches.specs.KeyRequest.{KeyRequest}
use Rattle.key_fetches.specs.Listed.{Ended, first_unlisted, only_block, unlisted_of}
use Rattle.key_fetches.specs.Rounds.{AreJudged, AskEach, AskedInTurn, IsJudged, IsRound, ListRowsAsked, Round, TossedFor, coins_of}
use Rattle.key_fetches.specs.LookedUp.{AskedInVain, Fetched, LookUpShort, LookUpUnfinished, LookUpUnread, LookedUp, LooksUp, at_start, standing_by_verdicts}
use Rattle.key_fetches.proofs.Verdicts.{lost-unlisted, rows_asked, unlisted-more, width-listed}
use Rattle.key_fetches.proofs.Asking.{ask_each_more, ask_each_none, judged_more, round_is, round_of}
use Rattle.key_fetches.proofs.Coins.{ends_next, fails_next, too_few_held, tossed_next}
use Rattle.key_fetches.proofs.Frames.{take_frames}

-- so many turns were taken: the search stands by the verdicts, and the first that didn't list exactly one block is kept
pub record InTurns (r : KeyRequest) (turn : ℕ) (s : Standing) (unlisted : Option Verdict) (first : Cell) (old new : World)
    : Type 0 where
  pub rounds : List Round
  pub verdicts : List Verdict
  pub count : length rounds ≡ turn
  pub judged : AreJudged r.plan (at_start r.plan r.key) rounds verdicts
  pub links : AskEach r.plan r.addresses rounds old new
  pub coins : TossedFor r.plan turn rounds first new
  pub standing : s ≡ standing_by_verdicts r.plan r.key verdicts
  pub unlisted_is : unlisted ≡ first_unlisted verdicts
  pub rows_is : s.rows ≡ r.plan.r
  pub width_is : s.width ≡ r.plan.s
  pub key_is : s.key ≡ r.key
  pub turn_is : s.turn ≡ turn

-- no coins were taken yet
none_tossed : (p : FetchPlan) (w : World) → TossedFor p 0 [] (w.at COINS) w
none_tossed p w =
    let none : 0 * need p 1 ≡ 0 = omega arith in
    subst (λ (n : ℕ). Tossed n [] (w.at COINS) (w.at COINS)) (sym none) (record {
      size = refl;
      bytes = All-nil (λ b. b < 256);
      cell = sym (took_none (w.at COINS));
      told = held (w.at COINS).holds;
    })
  where
    held : (o : Option (List ℕ)) → IfSome o (λ held. [] ≡ take 0 held)
    held None = tt
    held (Some h) = refl

-- before the first turn
pub turns_none : (r : KeyRequest) (s : Standing) (w : World) → s ≡ at_start r.plan r.key
    → InTurns r 0 s None (w.at COINS) w w
turns_none r s w is = record {
  rounds = [];
  verdicts = [];
  count = refl;
  judged = tt;
  links = ask_each_none r.plan r.addresses w;
  coins = none_tossed r.plan w;
  standing = is;
  unlisted_is = refl;
  rows_is = ap (λ (t : Standing). t.rows) is;
  width_is = ap (λ (t : Standing). t.width) is;
  key_is = ap (λ (t : Standing). t.key) is;
  turn_is = ap (λ (t : Standing). t.turn) is;
}

-- the search after one more verdict
standing_more : (p : FetchPlan) (key : List ℕ) (verdicts : List Verdict) (verdict : Verdict)
    → standing_after (standing_by_verdicts p key verdicts) (only_block verdict)
    ≡ standing_by_verdicts p key (verdicts ++ verdict ∷ [])
standing_more p key verdicts verdict =
    sym (fold-append standing_after (at_start p key) (map only_block verdicts) (only_block verdict ∷ []))
    ∙ ap (fold standing_after (at_start p key)) (sym (map-append only_block verdicts (verdict ∷ [])))

module _ (r : KeyRequest) (turn : ℕ) (s : Standing) (unlisted : Option Verdict) (first : Cell) (old mid new : World)
    (h : InTurns r turn s unlisted first old mid) (low : asked_row s < r.plan.r) where
  abbrev p : FetchPlan
  p = r.plan

  abbrev key : List ℕ
  key = r.key

  abbrev addresses : List (List ℕ)
  addresses = r.addresses

  -- what the fetch of this turn asks for
  abbrev asks_for : Request
  asks_for = request r.plan (asked_row s ∷ []) r.addresses

  -- one turn more
  pub turns_more : (session : Transcript) (verdict : Verdict) (next : Standing) (kept : Option Verdict)
      → Concludes asks_for session verdict mid new
      → next ≡ standing_after s (only_block verdict) → kept ≡ option_or unlisted (unlisted_of verdict)
      → InTurns r (turn + 1) next kept first old new
  turns_more session verdict next kept asks is keeps =
      let round = round_of (asked_row s) asks.coins session in
      let last : IsJudged p (asked_row s) round verdict = record {
        round_is = round_is p (asked_row s) addresses asks.coins session mid new low asks.asked;
        judged = asks.judged;
        found = asks.found;
      } in
      let same = IsNextTurn-from s next (only_block verdict) is in
      record {
        rounds = h.rounds ++ round ∷ [];
        verdicts = h.verdicts ++ verdict ∷ [];
        count = length-append h.rounds (round ∷ []) ∙ ap (λ (n : ℕ). n + 1) h.count;
        judged = judged_more p (at_start p key) h.rounds h.verdicts round verdict h.judged
            (subst (λ (t : Standing). IsJudged p (asked_row t) round verdict) h.standing last);
        links = ask_each_more p addresses h.rounds (asked_row s) asks.coins session old mid new h.links asks.asked.asked.links;
        coins = tossed_next p turn h.rounds round first mid new h.coins asks.asked.tossed;
        standing = is ∙ ap (λ (t : Standing). standing_after t (only_block verdict)) h.standing
            ∙ standing_more p key h.verdicts verdict;
        unlisted_is = keeps ∙ ap (λ (o : Option Verdict). option_or o (unlisted_of verdict)) h.unlisted_is
            ∙ sym (unlisted-more h.verdicts verdict);
        rows_is = same.rows ∙ h.rows_is;
        width_is = same.width ∙ h.width_is;
        key_is = same.key ∙ h.key_is;
        turn_is = same.turn ∙ ap (λ (n : ℕ). n + 1) h.turn_is;
      }

  -- the fetches before, where nothing but Coins was touched after them
  before : IsPlan p → Touches COINS mid new → Fetched r h.rounds h.verdicts old new
  before plan touch =
      let links = each_after (λ i. AskedInTurn p (slice_index_or addresses i []) i h.rounds) (link 1) p.n COINS old mid new
      (omega (arith, plan.numbers.few_servers)) (inl (omega arith)) h.links touch in
      record { judged = h.judged; links = links; frames = take_frames p addresses h.rounds old new links }

  -- a call on Coins failed
  pub ends_unread : IsPlan p → turn < turns_of p.r → FailsShort COINS (need p 1) mid new → Touches COINS mid new
      → LookUpUnread r first old new
  ends_unread plan few failed touch = record {
    rounds = h.rounds;
    verdicts = h.verdicts;
    fewer = omega (arith, few, h.count);
    fetched = before plan touch;
    coins = fails_next p turn h.rounds first mid new h.coins failed;
  }

  -- Coins ended
  pub ends_short : (taken : ℕ) → IsPlan p → turn < turns_of p.r → RunsOut (need p 1) taken (mid.at COINS) (new.at COINS)
      → Touches COINS mid new → LookUpShort r taken first old new
  ends_short taken plan few short touch =
      let ended = ends_next p turn taken h.rounds first mid new h.coins short in
      record {
        rounds = h.rounds;
        verdicts = h.verdicts;
        fewer = omega (arith, few, h.count);
        fetched = before plan touch;
        coins = ended;
        held = too_few_held p turn taken (coins_of h.rounds) first.holds short.fewer few h.coins.size ended.told;
      }

  -- memory ran out
  pub ends_unfinished : turn ≤ turns_of p.r → turn < turns_of p.r ⊎ (new ≡ mid)
      → (new ≡ mid) ⊎ AsksSome asks_for mid new → LookUpUnfinished r first old new
  ends_unfinished few more how = record {
    rounds = h.rounds;
    verdicts = h.verdicts;
    few = omega (arith, few, h.count);
    judged = h.judged;
    part = elim how [
      | inl same ↦ inl (stopped same)
      | inr asks ↦ elim more [
        | inl fewer ↦ inr (in_vain fewer asks)
        | inr same ↦ inl (stopped same)
      ]
    ];
  }
    where
      stopped : new ≡ mid → Fetched r h.rounds h.verdicts old new × TossedFor p (length h.rounds) h.rounds first new
      stopped same =
          subst (λ (w : World). Fetched r h.rounds h.verdicts old w × TossedFor p (length h.rounds) h.rounds first w) (sym same) (
            record { judged = h.judged; links = h.links; frames = take_frames p addresses h.rounds old mid h.links },
            subst (λ (n : ℕ). TossedFor p n h.rounds first mid) (sym h.count) h.coins,
          )

      in_vain : turn < turns_of p.r → AsksSome asks_for mid new
          → AskedInVain r h.rounds h.verdicts first old new
      in_vain fewer asks =
          let round = round_of (asked_row s) asks.coins asks.session in
          let links = ask_each_more p addresses h.rounds (asked_row s) asks.coins asks.session old mid new h.links asks.asked.asked.links in
          record {
            last = round;
            fewer = omega (arith, fewer, h.count);
            asked = subst (λ (t : Standing). IsRound p (asked_row t) round) h.standing
                (round_is p (asked_row s) addresses asks.coins asks.session mid new low asks.asked);
            links = links;
            frames = take_frames p addresses (h.rounds ++ round ∷ []) old new links;
            coins = subst (λ (n : ℕ). TossedFor p (n + 1) (h.rounds ++ round ∷ []) first new) (sym h.count)
                (tossed_next p turn h.rounds round first mid new h.coins asks.asked.tossed);
          }

  -- a fetch failed
  pub ends_by_fault : (fault : FetchFault) → IsPlan p → turn < turns_of p.r
      → Fetches asks_for (Err fault) mid new → LooksUp r (Err fault) first old new
  ends_by_fault CoinsFault plan few fetched = ends_unread plan few fetched.0 fetched.1
  ends_by_fault (CoinsEnded taken) plan few fetched = ends_short taken plan few fetched.0 fetched.1
  ends_by_fault Memory plan few fetched = ends_unfinished (omega (arith, few)) (inl few) fetched

  -- the block that is told is as long as a row of the search
  pub width_told : (session : Transcript) (verdict : Verdict) → p.scheme ≡ SHAMIR
      → Concludes asks_for session verdict mid new
      → IfSome (only_block verdict) (λ block. length block ≡ s.width)
  width_told session verdict shamir asks =
      subst (λ (width : ℕ). IfSome (only_block verdict) (λ block. length block ≡ width)) (sym h.width_is)
      (width-listed p (session_number asks.coins) session verdict shamir asks.asked.asked.params asks.judged)

-- nothing was done before memory ran out
pub nothing_done : (r : KeyRequest) (w : World) → LookUpUnfinished r (w.at COINS) w w
nothing_done r w =
    let links = ask_each_none r.plan r.addresses w in
    record {
      rounds = [];
      verdicts = [];
      few = omega arith;
      judged = tt;
      part = inl (
        record { judged = tt; links = links; frames = take_frames r.plan r.addresses [] w w links },
        none_tossed r.plan w,
      );
    }

-- where no verdict is kept there is none
no_verdict : (unlisted : Option Verdict) → is_some unlisted ≡ false → unlisted ≡ None
no_verdict None is = refl
no_verdict (Some verdict) is = cc is

-- after all turns
module _ (r : KeyRequest) (turn : ℕ) (s : Standing) (unlisted : Option Verdict) (first : Cell) (old new : World)
    (h : InTurns r turn s unlisted first old new) where
  start_is : start_of s ≡ at_start r.plan r.key
  start_is =
      ap (λ (rows : ℕ). standing_at_start rows s.width s.key) h.rows_is
      ∙ ap₂ (λ (width : ℕ) (k : List ℕ). standing_at_start r.plan.r width k) h.width_is h.key_is

  told : WasTold s (map only_block h.verdicts)
  told = h.standing ∙ ap (λ (t : Standing). fold standing_after t (map only_block h.verdicts)) (sym start_is)

  -- a row was lost where a verdict is kept
  pub lost_is : s.is_lost ≡ is_some unlisted
  lost_is = lost-told s (map only_block h.verdicts) told ∙ lost-unlisted h.verdicts ∙ ap is_some (sym h.unlisted_is)

  among : (rows : List (List ℕ)) → IsPlan r.plan → turn ≡ turns_of r.plan.r → length rows ≡ r.plan.r → AreSortedByKey r.key rows
      → ListRowsAsked rows h.rounds h.verdicts → (unlisted ≡ None) × (s.found ≡ row_with r.key rows)
  among rows plan all whole sorted list =
      let look : IsLookUp rows s (map only_block h.verdicts) = record {
        told_so = told;
        all = whole ∙ sym h.rows_is;
        sorted = subst (λ (k : List ℕ). AreSortedByKey k rows) (sym h.key_is) sorted;
        asked_for = subst (λ (t : Standing). AreRowsAsked rows t (map only_block h.verdicts)) (sym start_is)
            (rows_asked r.plan rows (at_start r.plan r.key) h.rounds h.verdicts h.judged list);
      } in
      let turns : s.turn ≡ turns_of s.rows = h.turn_is ∙ all ∙ ap turns_of (sym h.rows_is) in
      let found = found-from s rows (map only_block h.verdicts) (omega (arith, h.rows_is, plan.numbers.shape.some_rows))
      (omega (arith, h.rows_is, plan.numbers.shape.few_rows)) turns look in
      (no_verdict unlisted (sym lost_is ∙ found.0), found.1 ∙ ap (λ (k : List ℕ). row_with k rows) h.key_is)

  pub looked_up : IsPlan r.plan → turn ≡ turns_of r.plan.r → LookedUp r (record { unlisted = unlisted; found = s.found }) first old new
  looked_up plan all = record {
    rounds = h.rounds;
    verdicts = h.verdicts;
    turns = h.count ∙ all;
    fetched = record { judged = h.judged; links = h.links; frames = take_frames r.plan r.addresses h.rounds old new h.links };
    coins = subst (λ (n : ℕ). TossedFor r.plan n h.rounds first new) all h.coins;
    ends = ap₂ (λ (u : Option Verdict) (found : Option (List ℕ)). ended u found) h.unlisted_is
        (found-told s (map only_block h.verdicts) told ∙ ap (λ (k : List ℕ). row_with k (rows_told (map only_block h.verdicts))) h.key_is);
    row = λ rows whole sorted list.
        let found = among rows plan all whole sorted list in
        ap₂ (λ (u : Option Verdict) (f : Option (List ℕ)). ended u f) found.0 found.1;
  }
    where
      ended : Option Verdict → Option (List ℕ) → Ended
      ended u f = record { unlisted = u; found = f }
