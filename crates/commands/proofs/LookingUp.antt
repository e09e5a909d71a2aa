-- A look-up from its first port to its last.
use Rattle.std.proofs.Common.{◌≡◌, ◌≢◌, ◌∙◌, ◌⊎◌, inl, inr, ℕ, ◌+◌, ◌*◌, ◌%◌, ◌<◌, ◌≤◌, List, [], ◌∷◌, length, take, refl, lit<, sym, ap, subst, arith}
use Rattle.std.specs.Prelude.{Err, Ok, Option, Some, None, Result, slice_get, slice_index}
use Rattle.std.proofs.lemmas.List.{length-take}
use Rattle.std.proofs.lemmas.Option.{slice_get-get_or}
use Rattle.gf256.specs.Product.{IsMatrix}
use Rattle.port_trait.specs.declared.port.TheConstants.{PORT_COUNT}
use Rattle.port_trait.specs.World.{Cell, World}
use Rattle.port_trait.specs.Number.{COINS, OUTPUT, link}
use Rattle.port_trait.specs.Moves.{Touches, gave, named}
use Rattle.port_trait.proofs.Carried.{fails_writing_before}
use Rattle.port_trait.proofs.Rises.{once_rose}
use Rattle.wire_frames.specs.Answer.{answers}
use Rattle.wire_frames.proofs.Turns.{in_turn-one}
use Rattle.block_decoder.specs.declared.verdict.Verdict.{Verdict}
use Rattle.port_trait.proofs.Cells.{at_told}
use Rattle.query_rounds.specs.declared.plan.FetchPlan.{FetchPlan}
use Rattle.query_rounds.specs.declared.plan.FetchFault.{FetchFault}
use Rattle.query_rounds.specs.declared.plan.FetchFault.TheVariants.{CoinsFault, CoinsEnded as TooFewCoins, Memory as NoMemory}
use Rattle.query_rounds.specs.Plan.{IsPlan, need}
use Rattle.query_rounds.specs.Gathered.{TouchesLinks}
use Rattle.fetch_client.specs.Held.{block_of}
use Rattle.query_rounds.proofs.Ranges.{one_block}
use Rattle.key_search.specs.Standing.{Standing, standing_after}
use Rattle.key_fetches.specs.Listed.{Ended, only_block}
use Rattle.key_fetches.specs.Text.{end_text}
use Rattle.key_fetches.specs.Rounds.{AreJudged, IsJudged, ListRowsAsked, Round, coins_of}
use Rattle.key_fetches.specs.LookedUp.{LookedUp, LooksUp, TooFewHeld}
use Rattle.key_fetches.proofs.Within.{looks_within}
use Rattle.commands.specs.HeldRow.{EnoughReply}
use Rattle.commands.specs.LookUpOrder.{LookUpOrder}
use Rattle.commands.specs.LookUpOutcome.{EndTold, EnoughReplyInEach, LookUpEnds, LookUpPromise, LookUpReported, LookUpSettled, coins_needed, key_request_by, opened_coins, read_and_written}
use Rattle.commands.specs.Faults.{of_fetch}
use Rattle.commands.specs.Table.{status_by_end}
use Rattle.commands.specs.Told.{NoneRose}
use Rattle.commands.proofs.HeldRow.{held_row}
use Rattle.commands.specs.declared.status.Status.{Status}
use Rattle.commands.specs.declared.status.Status.TheVariants.{Usage, ReadFault, WriteFault, BadInput, DoorFault, ChildFault, Memory}
use Rattle.commands.specs.declared.status.Bad.TheVariants.{Session, EmptyFile, TooBig, CoinsEnded}
use Rattle.block_decoder.specs.declared.verdict.Verdict.TheVariants.{Listed as IsListed, TooFew as IsTooFew, TooWeak as IsTooWeak, TooCostly as IsTooCostly}

-- ---- the row that enough servers hold

-- the row that one fetch asks for is listed alone
row_held : (p : FetchPlan) (row : ℕ) (round : Round) (verdict : Verdict) (matrix : List (List ℕ)) → IsPlan p
    → IsMatrix matrix p.r p.s → IsJudged p row round verdict → EnoughReply p (round.row ∷ []) round.coins matrix [] round.session
    → length (answers round.session) + p.t + p.tau < 2 * p.h → only_block verdict ≡ slice_get matrix round.row
row_held p row round verdict matrix plan whole judged enough close =
    let is = judged.round_is in
    let held = held_row p (round.row ∷ []) round.coins round.session plan (one_block p round.row plan is.low) is.size is.bytes
    is.params is.whole verdict judged.found in
    let low : round.row < length matrix = omega (arith, is.low, whole.rows) in
    ap only_block (held.alone matrix [] enough close)
    ∙ ap (λ (block : List ℕ). Some block) (in_turn-one (λ v. block_of matrix (slice_index (round.row ∷ []) v)))
    ∙ sym (slice_get-get_or matrix round.row [] low)

-- so it is in each fetch
rows_held : (p : FetchPlan) (matrix : List (List ℕ)) (s : Standing) (rounds : List Round) (verdicts : List Verdict) → IsPlan p
    → IsMatrix matrix p.r p.s → AreJudged p s rounds verdicts → EnoughReplyInEach p matrix rounds
    → ListRowsAsked matrix rounds verdicts
rows_held p matrix s [] [] plan whole judged enough = tt
rows_held p matrix s [] (verdict ∷ verdicts) plan whole judged enough = absurd judged
rows_held p matrix s (round ∷ rounds) [] plan whole judged enough = absurd judged
rows_held p matrix s (round ∷ rounds) (verdict ∷ verdicts) plan whole judged enough = (
  row_held p _ round verdict matrix plan whole judged.0 enough.0 enough.1,
  rows_held p matrix (standing_after s (only_block verdict)) rounds verdicts plan whole judged.1 enough.2,
)

-- so what a look-up came to is what the matrix has
settled_by : (o : LookUpOrder) (ended : Ended) (old new : World) → IsPlan o.plan
    → LookedUp (key_request_by o) ended (opened_coins o old) old new → LookUpSettled o ended old new
settled_by o ended old new plan looked = record {
  looked = looked;
  held = λ matrix whole sorted enough. looked.row matrix whole.rows sorted
      (rows_held o.plan matrix _ looked.rounds looked.verdicts plan whole looked.fetched.judged enough);
}

-- ---- the ports one after the other

-- a look-up that reports what it came to ends with its status
reports_as : (o : LookUpOrder) (u : Option Verdict) (f : Option (List ℕ)) (old new : World)
    → LookUpReported o (status_by_end u f) old new → LookUpEnds o (status_by_end u f) old new
reports_as o (Some (IsListed [])) f old new said = said
reports_as o (Some (IsListed (b ∷ []))) f old new said = said
reports_as o (Some (IsListed (b ∷ (c ∷ bs)))) f old new said = said
reports_as o (Some (IsTooFew k h)) f old new said = said
reports_as o (Some (IsTooWeak k t h)) f old new said = said
reports_as o (Some (IsTooCostly equations)) f old new said = said
reports_as o None (Some row) old new said = said
reports_as o None None old new said = said

module _ (o : LookUpOrder) (w v u : World) (plan : IsPlan o.plan) (is_open : v.at COINS ≡ named o.coins (w.at COINS))
    (touch : Touches COINS w v) (links : TouchesLinks o.plan.n v u) where
  fits : link 1 + o.plan.n ≤ PORT_COUNT
  fits = omega (arith, plan.numbers.few_servers)

  -- the look-up, over the opening of Coins before it and what is written after it
  whole : (z : World) (r : Result Ended FetchFault) → ((q : ℕ) → q < PORT_COUNT → q ≢ OUTPUT → z.at q ≡ u.at q)
      → LooksUp (key_request_by o) r (v.at COINS) v u → LooksUp (key_request_by o) r (opened_coins o w) w z
  whole z r still looks =
      subst (λ (c : Cell). LooksUp (key_request_by o) r c w z) is_open
      (looks_within (key_request_by o) (v.at COINS) w v u z
      (λ i l. touch.others (link 1 + i) (omega (arith, fits, l)) (λ e. omega (arith, e)))
      (λ i l. still (link 1 + i) (omega (arith, fits, l)) (λ e. omega (arith, e)))
      (still COINS (lit< tt) (λ e. omega (arith, e))) r looks)

  -- Output isn't touched
  output : u.at OUTPUT ≡ w.at OUTPUT
  output = links.others OUTPUT (lit< tt) (λ e. omega (arith, e)) (λ lo hi. omega (arith, lo)) ∙ touch.others OUTPUT (lit< tt) (λ e. omega (arith, e))

  -- a fetch failed, or the memory for the search
  pub ends_with_fault : (fault : FetchFault) → LooksUp (key_request_by o) (Err fault) (v.at COINS) v u
      → LookUpEnds o (of_fetch fault) w u
  ends_with_fault CoinsFault looks =
      record { part = inr (whole u (Err CoinsFault) (λ q l ne. refl) looks); output = output }
  ends_with_fault (TooFewCoins taken) looks =
      record { short = whole u (Err (TooFewCoins taken)) (λ q l ne. refl) looks; output = output }
  ends_with_fault NoMemory looks =
      record { part = whole u (Err NoMemory) (λ q l ne. refl) looks; output = output }

  -- all turns were taken, and what they came to was written, or not
  pub ends_with_end : (ended : Ended) (status : Status) (z : World)
      → LooksUp (key_request_by o) (Ok ended) (v.at COINS) v u → EndTold ended status u z → Touches OUTPUT u z
      → LookUpEnds o status w z
  ends_with_end ended status z looks told touched =
      let settled = settled_by o ended w z plan (whole z (Ok ended) touched.others looks) in
      elim told [
        | inl done ↦
            subst (λ (s : Status). LookUpEnds o s w z) (sym done.0) (reports_as o ended.unlisted ended.found w z (record {
              ended = ended;
              settled = settled;
              status_is = refl;
              written = done.1 ∙ ap (gave (end_text ended)) output;
            }))
        | inr part ↦
            subst (λ (s : Status). LookUpEnds o s w z) (sym part.0) (record {
              ended = ended;
              settled = settled;
              cut = fails_writing_before OUTPUT w u z output (end_text ended) part.1;
            })
      ]

-- ---- what is promised

-- where there are coins enough for all turns, what they came to is reported
reported : (o : LookUpOrder) (status : Status) (old new : World) (held : List ℕ) → (old.at COINS).holds ≡ Some held → coins_needed o ≤ length held
    → NoneRose read_and_written old new → LookUpEnds o status old new → LookUpReported o status old new ⊎ (status ≡ Memory)
reported o Usage old new held told enough none said = absurd said
reported o ReadFault old new held told enough none said =
    absurd (elim said.part [ inl unopened ↦ none.1.0 (once_rose _ _ unopened.0.rose) | inr later ↦ none.1.0 (once_rose _ _ later.coins.rose) ])
reported o WriteFault old new held told enough none said = absurd (none.0 (once_rose _ _ said.cut.rose))
reported o (BadInput EmptyFile) old new held told enough none said = absurd said
reported o (BadInput (TooBig limit)) old new held told enough none said = absurd said
reported o (BadInput (Session place)) old new held told enough none said = absurd said
reported o (BadInput (CoinsEnded taken)) old new held told enough none said =
    let few = at_told (TooFewHeld o.plan taken) (old.at COINS).holds held told said.short.held in
    absurd (omega (arith, few.fewer, enough))
reported o DoorFault old new held told enough none said = absurd said
reported o ChildFault old new held told enough none said = absurd said
reported o Memory old new held told enough none said = inr refl
reported o status old new held told enough none said = inl said

-- nothing is reported where there are too few coins
no_end : (o : LookUpOrder) (status : Status) (old new : World) (held : List ℕ) → (old.at COINS).holds ≡ Some held → length held < coins_needed o
    → LookUpReported o status old new → ⊥
no_end o status old new held told few said =
    let looked = said.settled.looked in
    let coins = at_told (λ (h : List ℕ). coins_of looked.rounds ≡ take (coins_needed o) h) (old.at COINS).holds held told looked.coins.told in
    omega (arith, looked.coins.size, ap length coins, length-take (coins_needed o) held, few)

-- where there are too few coins, that is said
too_few : (o : LookUpOrder) (status : Status) (old new : World) (held : List ℕ) → (old.at COINS).holds ≡ Some held → length held < coins_needed o
    → NoneRose read_and_written old new → LookUpEnds o status old new
    → (status ≡ BadInput (CoinsEnded (length held % need o.plan 1))) ⊎ (status ≡ Memory)
too_few o Usage old new held told few none said = absurd said
too_few o ReadFault old new held told few none said =
    absurd (elim said.part [ inl unopened ↦ none.1.0 (once_rose _ _ unopened.0.rose) | inr later ↦ none.1.0 (once_rose _ _ later.coins.rose) ])
too_few o WriteFault old new held told few none said = absurd (none.0 (once_rose _ _ said.cut.rose))
too_few o (BadInput EmptyFile) old new held told few none said = absurd said
too_few o (BadInput (TooBig limit)) old new held told few none said = absurd said
too_few o (BadInput (Session place)) old new held told few none said = absurd said
too_few o (BadInput (CoinsEnded taken)) old new held told few none said =
    let all = at_told (TooFewHeld o.plan taken) (old.at COINS).holds held told said.short.held in
    inl (ap (λ (n : ℕ). BadInput (CoinsEnded n)) all.rest)
too_few o DoorFault old new held told few none said = absurd said
too_few o ChildFault old new held told few none said = absurd said
too_few o Memory old new held told few none said = inr refl
too_few o status old new held told few none said = absurd (no_end o status old new held told few said)

-- what is promised of `lookup`
pub look_up_promised : (o : LookUpOrder) (status : Status) (old new : World) → LookUpEnds o status old new → LookUpPromise o status old new
look_up_promised o status old new said = record {
  reported = λ held told enough none. reported o status old new held told enough none said;
  too_few_coins = λ held told few none. too_few o status old new held told few none said;
}
