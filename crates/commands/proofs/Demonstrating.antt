-- A demonstration from its first child to the verdict.
use Rattle.std.proofs.Common.{◌≡◌, ◌∙◌, ◌⊎◌, inl, inr, ℕ, ◌+◌, ◌<◌, ◌≤◌, List, [], ◌∷◌, length, map, refl, lit<, sym, ap, subst, arith}
use Rattle.std.specs.Prelude.{Some}
use Rattle.std.specs.List.{range_with_len}
use Rattle.std.proofs.lemmas.List.{length-map}
use Rattle.std.proofs.lemmas.List.FromFn.{length-map-range_with_len}
use Rattle.std.proofs.lemmas.Simd.{map-map}
use Rattle.port_trait.specs.declared.port.TheConstants.{PORT_COUNT}
use Rattle.port_trait.specs.World.{Cell, World}
use Rattle.port_trait.specs.Number.{OUTPUT, COINS, link, child}
use Rattle.port_trait.specs.Moves.{Rose, gave, named}
use Rattle.port_trait.proofs.Rises.{once_rose}
use Rattle.port_trait.proofs.Ranges.{each_within}
use Rattle.wire_frames.specs.Session.{Transcript}
use Rattle.query_rounds.specs.Plan.{need}
use Rattle.port_trait.specs.Tossed.{Tossed}
use Rattle.commands.specs.Said.{whole_text}
use Rattle.commands.specs.Told.{NoneRose, NoChildRose}
use Rattle.commands.specs.FetchOrder.{FetchOrder, plain_fetch}
use Rattle.commands.specs.FetchOutcome.{InSession, FetchReported, FetchEnds, TouchesFetch}
use Rattle.commands.specs.DemoOrder.{DemoOrder, address_from, addresses_from, addresses_of_children, words_to_serve, words_of_children, fetch_from_children}
use Rattle.commands.specs.DemoOutcome.{StartsAll, StartsSome, Demonstrated, DemoOutcome, DemoPromise, DemoReported, files}
use Rattle.commands.specs.declared.status.Status.{Status}
use Rattle.commands.specs.declared.status.Status.TheVariants.{BadInput, ChildFault, Memory}
use Rattle.commands.specs.declared.status.Bad.TheVariants.{CoinsEnded}
use Rattle.commands.proofs.Headline.{fetch_promised}
use Rattle.commands.proofs.Fetching.{recorded_before}

-- the addresses are as many as the children
pub length-addresses : (port n : ℕ) → length (addresses_from port n) ≡ n
unfolding addresses_from
length-addresses port n = length-map-range_with_len (address_from port) 1 n

-- the words that are made of the addresses are those of all children
pub words_are : {X Y : Type 0} (f : X → List ℕ) (g : Y → List (List ℕ)) (database : List ℕ) (width port n : ℕ) (made given : List X) (lists taken : List Y)
    → map f made ≡ addresses_from port n → given ≡ made
    → map g lists ≡ map (words_to_serve database width) (map f given) → taken ≡ lists → map g taken ≡ map (λ i. words_to_serve database width (address_from port i)) (range_with_len 1 n)
unfolding addresses_from
words_are f g database width port n made given lists taken at same words as_made =
    ap (map g) as_made ∙ words ∙ ap (λ xs. map (words_to_serve database width) (map f xs)) same ∙ ap (map (words_to_serve database width)) at
    ∙ map-map (words_to_serve database width) (address_from port) (range_with_len 1 n)

-- so they are as many as the children
pub size_of_words : {Y : Type 0} (g : Y → List (List ℕ)) (h : ℕ → List (List ℕ)) (lists : List Y) (n : ℕ) → map g lists ≡ map h (range_with_len 1 n) → length lists ≡ n
size_of_words g h lists n words = sym (length-map lists g) ∙ ap length words ∙ length-map-range_with_len h 1 n

-- and so are the addresses
pub size_of_addresses : {X : Type 0} (f : X → List ℕ) (made given : List X) (port n : ℕ) → map f made ≡ addresses_from port n → given ≡ made → length given ≡ n
size_of_addresses f made given port n at same = ap length same ∙ sym (length-map made f) ∙ ap length at ∙ length-addresses port n

-- what a demonstration ends with is what its fetch ends with
pub demonstrated_as : (o : DemoOrder) (status : Status) (old new : World) → Demonstrated o status old new → DemoOutcome o status old new
demonstrated_as o ChildFault old new d = absurd d.fetched.ends
demonstrated_as o Memory old new d = inr d
demonstrated_as o status old new d = d

-- the children were started with these words, and then a block was fetched from these addresses
pub demonstrates : (o : DemoOrder) (addresses : List (List ℕ)) (lists : List (List (List ℕ))) (status : Status) (w v u : World)
    → addresses ≡ addresses_of_children o → lists ≡ words_of_children o → StartsAll lists w v
    → FetchEnds (plain_fetch o.plan (o.block ∷ []) addresses o.coins) status v u → TouchesFetch o.plan.n v u
    → DemoOutcome o status w u
demonstrates o addresses lists status w v u at words starts ends others = demonstrated_as o status w u record {
  between = v;
  starts = subst (λ l. StartsAll l w v) words starts;
  fetched = record {
    ends = subst (λ a. FetchEnds (plain_fetch o.plan (o.block ∷ []) a o.coins) status v u) at ends;
    others = others;
  };
}

-- no port is touched before the fetch
module _ (o : FetchOrder) (w v z : World) (same : (q : ℕ) → q < PORT_COUNT → v.at q ≡ w.at q) (fits : (link 1) + o.plan.n ≤ PORT_COUNT) where
  -- so the session counts from before
  in_session_before : (coins : List ℕ) (session : Transcript) → InSession o coins session v z → InSession o coins session w z
  in_session_before coins session s = record {
    tossed = subst (λ (c : Cell). Tossed (need o.plan (length o.blocks)) coins (named o.coins c) (z.at COINS)) (same 3 (lit< tt)) s.tossed;
    asked = record {
      params = s.asked.params;
      whole = s.asked.whole;
      links = each_within _ (link 1) o.plan.n w v z z (λ i l. same ((link 1) + i) (omega arith)) (λ i l. refl) s.asked.links;
    };
  }

  -- and so does what is reported
  reported_before : (status : Status) → FetchReported o status v z → FetchReported o status w z
  reported_before status r = record {
    session = r.session;
    verdict = r.verdict;
    report = r.report;
    settled = record {
      coins = r.settled.coins;
      fetched = in_session_before r.settled.coins r.session r.settled.fetched;
      judged = r.settled.judged;
      found = r.settled.found;
      held = r.settled.held;
    };
    beside = r.beside;
    liars = r.liars;
    status_is = r.status_is;
    recorded = recorded_before o.keep r.session w v z (same 4 (lit< tt)) r.recorded;
    written = r.written ∙ ap (gave (whole_text r.session r.verdict r.report)) (same 1 (lit< tt));
  }

-- no call failed
module _ (o : DemoOrder) (old new : World) (few : o.plan.n < 256) (none : NoneRose files old new) (ready : NoChildRose o.plan.n old new) where
  -- so all children were started
  started : StartsSome (words_of_children o) old new → ⊥
  started s =
      let fewer : s.before < o.plan.n = omega (arith, s.fewer, length-map-range_with_len (λ i. words_to_serve o.database o.plan.s (address_from o.port i)) 1 o.plan.n) in
      ready s.before fewer (subst (λ (c : Cell). Rose c.faults (new.at ((child 1) + s.before)).faults) (s.starts.ports ((child 1) + s.before) (omega (arith, fewer, few))) (once_rose _ _ s.fails.rose))

  -- nor has any in the fetch
  none_after : (v : World) → ((q : ℕ) → q < PORT_COUNT → v.at q ≡ old.at q) → NoneRose files v new
  none_after v same = (
    λ rose. none.0 (subst (λ (c : Cell). Rose c.faults (new.at OUTPUT).faults) (same 1 (lit< tt)) rose),
    (λ rose. none.1.0 (subst (λ (c : Cell). Rose c.faults (new.at COINS).faults) (same 3 (lit< tt)) rose), tt),
  )

  -- Coins holds the same for the fetch
  told_after : (v : World) (held : List ℕ) → ((q : ℕ) → q < PORT_COUNT → v.at q ≡ old.at q) → (old.at COINS).holds ≡ Some held → (v.at COINS).holds ≡ Some held
  told_after v held same told = ap (λ (c : Cell). c.holds) (same 3 (lit< tt)) ∙ told

  module _ (held : List ℕ) (told : (old.at COINS).holds ≡ Some held) where
    -- so the verdict of the fetch is reported
    reports : (status : Status) → need o.plan 1 ≤ length held → Demonstrated o status old new → DemoReported o status old new ⊎ (status ≡ Memory)
    reports status enough d =
        let same = d.starts.ports in
        elim ((fetch_promised (fetch_from_children o) status d.between new d.fetched.ends).reported held (told_after d.between held same told) enough (none_after d.between same)) [
          | inl r ↦
              inl record {
                started = d.fetched.others.started ∙ d.starts.started;
                reported = reported_before (fetch_from_children o) old d.between new same (omega (arith, few)) status r;
              }
          | inr m ↦ inr m
        ]

    -- or there are too few coins for it
    lacks : (status : Status) → length held < need o.plan 1 → Demonstrated o status old new → (status ≡ BadInput (CoinsEnded (length held))) ⊎ (status ≡ Memory)
    lacks status short d =
        let same = d.starts.ports in
        (fetch_promised (fetch_from_children o) status d.between new d.fetched.ends).too_few_coins held (told_after d.between held same told) short (none_after d.between same)

    -- where there are coins enough, the verdict is reported
    demo_reported : (status : Status) → need o.plan 1 ≤ length held → DemoOutcome o status old new → DemoReported o status old new ⊎ (status ≡ Memory)
    demo_reported ChildFault enough d = absurd (started d)
    demo_reported Memory enough d = inr refl
    demo_reported status enough d = reports status enough d

    -- where there are fewer, that is said
    demo_too_few : (status : Status) → length held < need o.plan 1 → DemoOutcome o status old new → (status ≡ BadInput (CoinsEnded (length held))) ⊎ (status ≡ Memory)
    demo_too_few ChildFault short d = absurd (started d)
    demo_too_few Memory short d = inr refl
    demo_too_few status short d = lacks status short d

-- what is promised of `demo`
pub demo_promised : (o : DemoOrder) (status : Status) (old new : World) → o.plan.n < 256 → DemoOutcome o status old new → DemoPromise o status old new
demo_promised o status old new few said = record {
  reported = λ held told enough none ready. demo_reported o old new few none ready held told status enough said;
  too_few_coins = λ held told short none ready. demo_too_few o old new few none ready held told status short said;
}
