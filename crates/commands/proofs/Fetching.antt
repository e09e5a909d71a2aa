-- A fetch from its first port to its last.
use Rattle.std.proofs.Common.{◌≡◌, ◌≢◌, ◌⊎◌, ◌∙◌, inl, inr, Bool, true, false, ℕ, ◌+◌, ◌<◌, ◌≤◌, List, [], ◌∷◌, length, take, slice_index_or, refl, lit<, sym, ap, subst, arith}
use Rattle.std.specs.Prelude.{Option, Some, None, IfSome, Result, Ok, Err}
use Rattle.port_trait.specs.declared.port.TheConstants.{PORT_COUNT}
use Rattle.port_trait.specs.World.{Cell, World}
use Rattle.port_trait.specs.Number.{COINS, OUTPUT, RECORD, link}
use Rattle.port_trait.specs.Moves.{Fails, RoseOnce, Touches, took, gave, named, counted}
use Rattle.port_trait.specs.Tossed.{RunsOut}
use Rattle.port_trait.proofs.Cells.{touches_more}
use Rattle.port_trait.proofs.Ranges.{each_within}
use Rattle.port_trait.proofs.Carried.{fails_writing_before}
use Rattle.wire_frames.specs.Sizes.{answer_len}
use Rattle.wire_frames.specs.Session.{Transcript, session_bytes}
use Rattle.block_decoder.specs.declared.verdict.Verdict.{Verdict}
use Rattle.block_decoder.specs.declared.verdict.Verdict.TheVariants.{Listed as IsListed, TooFew as IsTooFew, TooWeak as IsTooWeak, TooCostly as IsTooCostly}
use Rattle.block_decoder.specs.Report.{Agreement}
use Rattle.query_rounds.specs.Plan.{AreBlocks, IsPlan, need}
use Rattle.query_rounds.specs.Request.{Request}
use Rattle.query_rounds.specs.Sent.{sent}
use Rattle.query_rounds.specs.Link.{LinkAsked}
use Rattle.query_rounds.specs.Gathered.{AsksWith, FetchesTo, TouchesLinks}
use Rattle.fetch_client.specs.Fetched.{Fetches, FetchesWhole}
use Rattle.query_rounds.specs.declared.plan.FetchFault.{FetchFault}
use Rattle.query_rounds.specs.declared.plan.FetchFault.TheVariants.{CoinsFault, CoinsEnded, Memory as NoMemory}
use Rattle.wire_frames.specs.declared.session.SessionParams.{SessionParams}
use Rattle.wire_frames.specs.declared.scheme.TheConstants.{SHAMIR, XOR}
use Rattle.commands.specs.Faults.{of_fetch}
use Rattle.commands.specs.Table.{status_of}
use Rattle.commands.specs.FetchOrder.{FetchOrder}
use Rattle.commands.specs.FetchOutcome.{ConcludesBeside, InSession, Settled, Recorded, Unrecorded, FetchReported, FetchEnds, FetchesBeside, Reports, TouchesFiles, request_by, with_none}
use Rattle.commands.specs.Said.{IsReportOf, whole_text}
use Rattle.commands.proofs.HeldRow.{held_row}
use Rattle.commands.proofs.Saying.{report_of}
use Rattle.commands.specs.declared.status.Status.{Status}
use Rattle.commands.specs.declared.status.Status.TheVariants.{ReadFault}

-- every server was asked after Coins was opened, and before other ports were touched
pub asked_within : (o : FetchOrder) (coins : List ℕ) (session : Transcript) (w v u z : World) → (link 1) + o.plan.n ≤ PORT_COUNT → v.at COINS ≡ named o.coins (w.at COINS) → Touches COINS w v
    → AsksWith (request_by o) coins session v u → TouchesFiles u z → InSession o coins session w z
asked_within o coins session w v u z fits is_open touch asks files =
    let p = o.plan in
    let t = asks.tossed in
    let still : z.at COINS ≡ u.at COINS = files.others 3 (omega arith) (λ e. omega (arith, e)) (λ e. omega (arith, e)) in
    record {
      tossed = record {
        size = t.size;
        bytes = t.bytes;
        cell = still ∙ t.cell ∙ ap (took (need p (length o.blocks))) is_open;
        told = subst (λ (c : Cell). IfSome c.holds (λ held. coins ≡ take (need p (length o.blocks)) held)) is_open t.told;
      };
      asked = record {
        params = asks.asked.params;
        whole = asks.asked.whole;
        links = each_within (λ (i : ℕ). LinkAsked (slice_index_or o.addresses i []) (sent p o.blocks coins (i + 1)) (answer_len (length o.blocks) p.s) (slice_index_or session.records i None)) (link 1) p.n w v u z
            (λ i l. touch.others ((link 1) + i) (omega arith) (λ e. omega (arith, e)))
            (λ i l. files.others ((link 1) + i) (omega arith) (λ e. omega (arith, e)) (λ e. omega (arith, e))) asks.asked.links;
      };
    }

-- a record counts from before, where the port wasn't touched before it
pub recorded_before : (keep : Option (List ℕ)) (session : Transcript) (w u z : World) → u.at RECORD ≡ w.at RECORD → Recorded keep session u z → Recorded keep session w z
recorded_before None session w u z still kept = kept ∙ still
recorded_before (Some name) session w u z still kept = record { file = kept.file; cell = kept.cell ∙ ap (λ (c : Cell). gave (session_bytes session) (named name c)) still }

-- and so does one that was cut short
unrecorded_before : (keep : Option (List ℕ)) (session : Transcript) (w u z : World) → u.at RECORD ≡ w.at RECORD → Unrecorded keep session u z → Unrecorded keep session w z
unrecorded_before None session w u z still cut = cut
unrecorded_before (Some name) session w u z still cut = record {
  n = cut.n;
  proper = cut.proper;
  cell = elim cut.cell [
    | inl a ↦ inl (a ∙ ap (counted (z.at RECORD).faults) still)
    | inr b ↦ inr (b ∙ ap (λ (c : Cell). counted (z.at RECORD).faults (gave (take cut.n (session_bytes session)) (named name c))) still)
  ];
  rose = subst (λ (c : Cell). RoseOnce c.faults (z.at RECORD).faults) still cut.rose;
}

-- a fetch that reports a verdict ends with its status
ends_as : (o : FetchOrder) (verdict : Verdict) (w z : World) → FetchReported o (status_of verdict) w z → FetchEnds o (status_of verdict) w z
ends_as o (IsListed []) w z said = said
ends_as o (IsListed (b ∷ [])) w z said = said
ends_as o (IsListed (b ∷ (c ∷ bs))) w z said = said
ends_as o (IsTooFew k h) w z said = said
ends_as o (IsTooWeak k t h) w z said = said
ends_as o (IsTooCostly equations) w z said = said

-- every server was asked, so the report is that of the session
pub report_of_fetch : (wanted : Bool) (r : Request) (session : Transcript) (verdict : Verdict) (report : Option (List Agreement))
    (old new : World) → IsPlan r.plan → ConcludesBeside wanted r (session, verdict, report) old new → IsReportOf session report
report_of_fetch wanted r session verdict report old new plan found =
    let same = ap (λ (q : SessionParams). q.scheme) found.concludes.asked.asked.params in
    report_of session verdict (subst (λ (n : ℕ). (n ≡ SHAMIR) ⊎ (n ≡ XOR)) (sym same) plan.numbers.scheme) wanted report found.beside

-- every server was asked, so the session has a record for each
pub whole_of_fetch : (wanted : Bool) (r : Request) (session : Transcript) (verdict : Verdict) (report : Option (List Agreement))
    (old new : World) → ConcludesBeside wanted r (session, verdict, report) old new → length session.records ≡ session.params.n
whole_of_fetch wanted r session verdict report old new found =
    found.concludes.asked.asked.whole ∙ sym (ap (λ (q : SessionParams). q.n) found.concludes.asked.asked.params)

-- a fetch with no report
pub fetches_plain : (r : Request) (result : Result (Transcript × Verdict) FetchFault) (old new : World)
    → Fetches r result old new → FetchesTo (ConcludesBeside false r) r (with_none result) old new
fetches_plain r (Ok both) old new fetched = record { concludes = fetched; beside = refl; liars = λ agreements same. absurd cc }
fetches_plain r (Err CoinsFault) old new fetched = fetched
fetches_plain r (Err (CoinsEnded taken)) old new fetched = fetched
fetches_plain r (Err NoMemory) old new fetched = fetched

-- and one with a report
pub fetches_whole : (r : Request) (result : Result (Transcript × Verdict × Option (List Agreement)) FetchFault) (old new : World)
    → FetchesWhole r result old new → FetchesTo (ConcludesBeside true r) r result old new
fetches_whole r (Ok found) old new fetched = record { concludes = fetched.concludes; beside = fetched.report; liars = fetched.liars }
fetches_whole r (Err CoinsFault) old new fetched = fetched
fetches_whole r (Err (CoinsEnded taken)) old new fetched = fetched
fetches_whole r (Err NoMemory) old new fetched = fetched

-- Coins was opened, every server was asked, and the session was reported
pub ends_with_report : (o : FetchOrder) (session : Transcript) (verdict : Verdict) (report : Option (List Agreement)) (status : Status) (w v u z : World)
    → IsPlan o.plan → AreBlocks o.plan o.blocks → v.at COINS ≡ named o.coins (w.at COINS) → Touches COINS w v
    → ConcludesBeside o.report (request_by o) (session, verdict, report) v u → TouchesLinks o.plan.n v u
    → Reports o.keep (session, verdict, report) status u z → TouchesFiles u z → FetchEnds o status w z
ends_with_report o session verdict report status w v u z plan are is_open touch beside links reports files = elim reports [
  | inl told ↦ elim told.1 [
    | inl whole ↦
        subst (λ (s : Status). FetchEnds o s w z) (sym whole.0) (ends_as o verdict w z record {
          session = session;
          verdict = verdict;
          report = report;
          settled = settled;
          beside = beside.beside;
          liars = beside.liars;
          status_is = refl;
          recorded = recorded_before o.keep session w u z (still 4 (lit< tt) (λ e. omega (arith, e))) told.0;
          written = whole.1 ∙ ap (gave (whole_text session verdict report)) (still 1 (lit< tt) (λ e. omega (arith, e)));
        })
    | inr part ↦
        subst (λ (s : Status). FetchEnds o s w z) (sym part.0) (record {
          session = session;
          verdict = verdict;
          report = report;
          settled = settled;
          beside = beside.beside;
          cut = inr (
            recorded_before o.keep session w u z (still 4 (lit< tt) (λ e. omega (arith, e))) told.0,
            fails_writing_before 1 w u z (still 1 (lit< tt) (λ e. omega (arith, e))) (whole_text session verdict report) part.1,
          );
        })
  ]
  | inr cut ↦
      subst (λ (s : Status). FetchEnds o s w z) (sym cut.1) (record {
        session = session;
        verdict = verdict;
        report = report;
        settled = settled;
        beside = beside.beside;
        cut = inl (
          unrecorded_before o.keep session w u z (still 4 (lit< tt) (λ e. omega (arith, e))) cut.0,
          cut.2 ∙ still 1 (lit< tt) (λ e. omega (arith, e)),
        );
      })
]
  where
    -- the verdict on the session is what it has to be
    settled : Settled o session verdict w z
    settled = record {
      coins = beside.concludes.coins;
      fetched = asked_within o beside.concludes.coins session w v u z (omega (arith, plan.numbers.few_servers)) is_open touch beside.concludes.asked files;
      judged = beside.concludes.judged;
      found = beside.concludes.found;
      held = held_row o.plan o.blocks beside.concludes.coins session plan are beside.concludes.asked.tossed.size beside.concludes.asked.tossed.bytes beside.concludes.asked.asked.params beside.concludes.asked.asked.whole verdict beside.concludes.found;
    }

    -- a port but Coins and the links wasn't touched before
    still : (q : ℕ) → q < 256 → q ≢ COINS → u.at q ≡ w.at q
    still q l ne = links.others q (omega arith) ne (λ lo hi. omega (arith, lo, l)) ∙ touch.others q (omega arith) ne

-- Coins can't be opened
pub ends_unopened : (o : FetchOrder) (w v : World) → Fails COINS w v → Touches COINS w v → FetchEnds o ReadFault w v
ends_unopened o w v fails touch = record {
  unread = record { n = 0; fewer = omega arith; cell = inl fails.cell; rose = fails.rose };
  others = touch;
}

-- Coins was opened, but no session came of it, or there was no memory to judge it
module _ (o : FetchOrder) (w v u : World) (plan : IsPlan o.plan) (is_open : v.at COINS ≡ named o.coins (w.at COINS)) (touch : Touches COINS w v) (links : TouchesLinks o.plan.n v u) where
  -- a port but Coins and the links isn't touched
  untouched : (q : ℕ) → q < 256 → q ≢ COINS → u.at q ≡ w.at q
  untouched q l ne = links.others q (omega arith) ne (λ lo hi. omega (arith, lo, l)) ∙ touch.others q (omega arith) ne

  -- the fetch ends as its fault says
  pub ends_with_fault : (fault : FetchFault) → FetchesBeside o (Err fault) v u → FetchEnds o (of_fetch fault) w u
  ends_with_fault CoinsFault fetched = record {
    unread = record {
      n = fetched.0.after.n;
      fewer = fetched.0.fewer;
      cell = inr (fetched.0.after.cell ∙ ap (λ (c : Cell). counted (u.at COINS).faults (took fetched.0.after.n c)) is_open);
      rose = subst (λ (c : Cell). RoseOnce c.faults (u.at COINS).faults) is_open fetched.0.after.rose;
    };
    others = touches_more _ _ _ _ touch fetched.1;
  }
  ends_with_fault (CoinsEnded taken) fetched = record {
    short = subst (λ (c : Cell). RunsOut (need o.plan (length o.blocks)) taken c (u.at COINS)) is_open fetched.0;
    others = touches_more _ _ _ _ touch fetched.1;
  }
  ends_with_fault NoMemory fetched = record {
    part = elim fetched [
      | inl same ↦ inl (
        ap (λ (x : World). x.at COINS) same ∙ is_open,
        subst (λ (x : World). Touches COINS w x) (sym same) touch,
      )
      | inr some ↦ inr (record {
        coins = some.coins;
        session = some.session;
        fetched = asked_within o some.coins some.session w v u u (omega (arith, plan.numbers.few_servers)) is_open touch some.asked
            (record { others = λ q l a b. refl; crowd = refl; started = refl });
      })
    ];
    kept = untouched RECORD (lit< tt) (λ e. omega (arith, e));
    output = untouched OUTPUT (lit< tt) (λ e. omega (arith, e));
  }
