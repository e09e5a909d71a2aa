-- What a front does with a guest, by the bytes that the guest and the links hold.
use Rattle.std.proofs.Common.{◌≡◌, ◌≢◌, ◌∙◌, inl, inr, ℕ, ◌+◌, ◌<◌, ◌≤◌, cond, eqb, Bool, true, false, List, [], ◌++◌, take, get_or}
use Rattle.std.proofs.Common.{refl, sym, ap, subst, arith}
use Rattle.std.proofs.lemmas.Bool.{cases_lt}
use Rattle.std.proofs.lemmas.Bool.Decides.{eqb_tells}
use Rattle.std.specs.Prelude.{◌⊎◌, Option, Some, None}
use Rattle.std.specs.Option.{option_map}
use Rattle.port_trait.specs.World.{Cell, World}
use Rattle.port_trait.specs.Number.{GUEST, link}
use Rattle.port_trait.specs.Moves.{Touches}
use Rattle.port_trait.proofs.Cells.{at_told}
use Rattle.wire_frames.specs.declared.header.QueryHeader.{QueryHeader}
use Rattle.wire_frames.specs.Answer.{usable}
use Rattle.serve_core.specs.Taking.{BreaksTaking, Dismisses, IsBrokenTaking, IsDismissal, IsGood, IsQueryOf}
use Rattle.serve_core.specs.declared.met.Met.TheVariants.{Refused as IsRefused, Gone as IsGone}
use Rattle.shard_front.specs.declared.relayed.Relayed.{Relayed}
use Rattle.shard_front.specs.declared.relayed.Relayed.TheVariants.{Served, Refused, Gone, GuestFault, ShardLost}
use Rattle.shard_front.specs.Spread.{IsSpread, Spread, shards, terms_of}
use Rattle.shard_front.specs.RelayedQuery.{RelayedQuery, relayed_over}
use Rattle.shard_front.specs.Parts.{Part, part_answer_len, part_at, part_header}
use Rattle.shard_front.specs.Shard.{ShardAnswers, ShardIsLost}
use Rattle.shard_front.specs.Asked.{AllAnswer, Asks, FirstAnswer, FirstLost, asked_for, lost_frame}
use Rattle.shard_front.specs.Fronted.{BreaksRelay, Fronts, IsRelayed, Relays, TouchesFirst}
use Rattle.shard_front.specs.Relay.{AreLinks, Counts, FrontsBytes, FrontsTold, GivePayloads, GivesRelay, IsPrefixOfRelay, IsRelay, Links, payload_from, visit_of}

module _ (part : Part) (c d : Cell) (h : List ℕ) (e : c.holds ≡ Some h) where
  -- what a link that holds these bytes answers
  abbrev first : List ℕ
  first = take (part_answer_len part) h

  -- the payload that the part's shard gives by that
  abbrev given : Bool → Option (List ℕ)
  given failed = payload_from part.spread part.query part.place h failed

  -- a shard that answered gives its payload, and no call on its link failed
  answer_gives : (payload : List ℕ) → ShardAnswers part payload c d → given false ≡ Some payload
  answer_gives payload a =
      let bytes_are : a.bytes ≡ first = at_told (λ held. a.bytes ≡ take (part_answer_len part) held) c.holds h e a.answered.told in
      ap (λ (l : List ℕ). usable l (part_header part)) (sym bytes_are) ∙ a.usable

  -- and the count of its link stayed
  answer_counts : (payload : List ℕ) → ShardAnswers part payload c d → d.faults ≡ c.faults
  answer_counts payload a = ap (λ (x : Cell). x.faults) a.answered.cell

  -- one that is lost gives none, by whether its link failed
  pub lost_how : ShardIsLost part c d → (b : Bool) × (given b ≡ None) × Counts b c.faults d.faults
  lost_how (inl broke) = (true, refl, broke.rose)
  lost_how (inr bad) =
      let bytes_are : bad.bytes ≡ first = at_told (λ held. bad.bytes ≡ take (part_answer_len part) held) c.holds h e bad.answered.told in (
        false,
        ap (λ (l : List ℕ). usable l (part_header part)) (sym bytes_are) ∙ bad.unusable,
        ap (λ (x : Cell). x.faults) bad.answered.cell,
      )

-- which links fail where only one does, or none
abbrev fails_at : ℕ → Bool → ℕ → Bool
fails_at place b i = cond (eqb i place) b false

-- it fails there as it is said
fails_here : (place : ℕ) (b : Bool) → fails_at place b place ≡ b
fails_here place b = elim (eqb_tells place place) [
  | inl same ↦ ap (λ (t : Bool). cond t b false) same.0
  | inr other ↦ absurd (other.1 refl)
]

-- and nowhere else
fails_else : (place : ℕ) (b : Bool) (i : ℕ) → i ≢ place → fails_at place b i ≡ false
fails_else place b i ne = elim (eqb_tells i place) [
  | inl same ↦ absurd (ne same.1)
  | inr other ↦ ap (λ (t : Bool). cond t b false) other.0
]

-- the links relay a query: which of them failed, and what they make of it
record LinksRelay (spread : Spread) (guest : List ℕ) (held : ℕ → List ℕ) (met : Relayed) (frame : List ℕ) (w u : World) : Type 0 where
  failed : ℕ → Bool
  links : AreLinks spread (record { held = held; failed = failed }) w u
  -- the query, as it is relayed
  relay : IsRelay spread guest (record { held = held; failed = failed }) met frame

module _ (spread : Spread) (is : IsSpread spread) (guest : List ℕ) (held : ℕ → List ℕ) (w u : World)
    (told : (i : ℕ) → i < shards spread → (w.at (link 1 + i)).holds ≡ Some (held i)) where
  -- no link failed, where each is as it was
  none_failed : ((i : ℕ) → i < shards spread → u.at (link 1 + i) ≡ w.at (link 1 + i)) → AreLinks spread (record { held = held; failed = λ i. false }) w u
  none_failed still = record { held = told; failed = λ i l. ap (λ (c : Cell). c.faults) (still i l) }

  module _ (query : QueryHeader) (vectors : List ℕ) (addresses : List (List ℕ)) (good : IsGood (terms_of spread) query)
      (asks : IsQueryOf (terms_of spread) query vectors guest) where
    abbrev relay : RelayedQuery
    relay = relayed_over spread addresses query vectors

    -- the payloads of shards that answered
    gives_first : (n : ℕ) (payloads : List (List ℕ)) (failed : ℕ → Bool) → n ≤ shards spread → ((i : ℕ) → i < n → failed i ≡ false)
        → FirstAnswer relay n payloads w u → GivePayloads spread query (record { held = held; failed = failed }) n payloads
    gives_first n payloads failed few none a = record {
      count = a.count;
      each = λ i l. ap (payload_from spread query i (held i)) (none i l)
          ∙ answer_gives (part_at relay i) (w.at (link 1 + i)) (u.at (link 1 + i)) (held i) (told i (omega (arith, l, few)))
          (get_or payloads i []) (a.each.each i l);
    }

    -- and the counts of their links
    counts_first : (n : ℕ) (payloads : List (List ℕ)) → n ≤ shards spread → FirstAnswer relay n payloads w u
        → (i : ℕ) → i < n → (u.at (link 1 + i)).faults ≡ (w.at (link 1 + i)).faults
    counts_first n payloads few a i l =
        answer_counts (part_at relay i) (w.at (link 1 + i)) (u.at (link 1 + i)) (held i) (told i (omega (arith, l, few)))
        (get_or payloads i []) (a.each.each i l)

    -- all answered
    all_relay : (frame : List ℕ) → AllAnswer relay frame w u → LinksRelay spread guest held Served frame w u
    all_relay frame a = record {
      failed = λ i. false;
      links = record { held = told; failed = λ i l. counts_first (shards spread) a.payloads (omega arith) a.answer i l };
      relay = record {
        query = query;
        vectors = vectors;
        good = good;
        asks = asks;
        payloads = a.payloads;
        give = gives_first (shards spread) a.payloads (λ i. false) (omega arith) (λ i l. refl) a.answer;
        frame_is = a.frame_is;
      };
    }

    -- one is lost, and those behind it are as they were
    loss_relays : (number : ℕ) (frame : List ℕ) → FirstLost relay number w u → frame ≡ lost_frame query number
        → ((i : ℕ) → i < shards spread → number ≤ i → u.at (link 1 + i) ≡ w.at (link 1 + i)) → LinksRelay spread guest held (ShardLost number) frame w u
    loss_relays number frame a frame_is behind =
        let p = a.place in
        let there = a.there in
        let number_is = a.number_is in
        let how = lost_how (part_at relay p) (w.at (link 1 + p)) (u.at (link 1 + p)) (held p) (told p a.there) a.lost in
        let failed = fails_at p how.0 in
        record {
          failed = failed;
          links = record {
            held = told;
            failed = λ i l. elim (eqb_tells i p) [
              | inl same ↦
                  subst (λ (k : ℕ). Counts (failed k) (w.at (link 1 + k)).faults (u.at (link 1 + k)).faults) (sym same.1)
                  (subst (λ (b : Bool). Counts b (w.at (link 1 + p)).faults (u.at (link 1 + p)).faults) (sym (fails_here p how.0)) how.2)
              | inr other ↦
                  subst (λ (b : Bool). Counts b (w.at (link 1 + i)).faults (u.at (link 1 + i)).faults) (sym (fails_else p how.0 i other.1))
                  (elim (cases_lt i p) [
                    | inl low ↦ counts_first p a.payloads (omega (arith, there)) a.before i low
                    | inr high ↦ ap (λ (c : Cell). c.faults) (behind i l (let ne = other.1 in omega (arith, high, number_is, ne)))
                  ])
            ];
          };
          relay = record {
            query = query;
            vectors = vectors;
            good = good;
            asks = asks;
            place = p;
            number_is = a.number_is;
            there = a.there;
            payloads = a.payloads;
            before = gives_first p a.payloads failed (omega (arith, there)) (λ i l. fails_else p how.0 i (λ e. omega (arith, l, e))) a.before;
            lost = ap (payload_from spread query p (held p)) (fails_here p how.0) ∙ how.1;
            frame_is = frame_is;
          };
        }

  -- what the shards were asked for
  module _ (addresses : List (List ℕ)) (holds : (w.at GUEST).holds ≡ Some guest) where
    -- the links relay the query that was taken
    links_relay : (met : Relayed) (n : ℕ) (frame : List ℕ) → Relays spread addresses met n frame w u → LinksRelay spread guest held met frame w u
    links_relay met n frame r = by met r.asked r.others
      where
        -- the guest asks for it
        asks : IsQueryOf (terms_of spread) r.query r.vectors guest
        asks = at_told (IsQueryOf (terms_of spread) r.query r.vectors) (w.at GUEST).holds guest holds r.told

        -- by what the guest is met with
        by : (met : Relayed) → Asks (relayed_over spread addresses r.query r.vectors) met frame w u
            → TouchesFirst (asked_for spread met) w u → LinksRelay spread guest held met frame w u
        by Served a touches = all_relay r.query r.vectors addresses r.good asks frame a
        by (ShardLost number) (a, frame_is) touches =
            let few = is.few in
            loss_relays r.query r.vectors addresses r.good asks number frame a frame_is
            (λ i l past. touches.others (link 1 + i) (omega (arith, few, l)) (λ e. omega (arith, e)) (λ low high. omega (arith, high, past)))
        by (Refused status) a touches = absurd a
        by Gone a touches = absurd a
        by GuestFault a touches = absurd a

    module _ (before : List ℕ) (accepted : (w.at GUEST).accepted ≡ Some before) where
      -- the guest was given the whole frame
      told_whole : (met : Relayed) (a : IsRelayed spread addresses met w u)
          → ((links : Links) → IsRelay spread guest links met a.frame → GivesRelay spread links met (visit_of guest a.frame w u))
          → FrontsBytes spread guest held before met w u
      told_whole met a gives =
          let r = links_relay met a.n a.frame a.relays in
          record {
            failed = r.failed;
            out = a.frame;
            links = r.links;
            accepted = ap (λ (c : Cell). c.accepted) a.cell ∙ ap (λ (o : Option (List ℕ)). option_map (λ x. x ++ a.frame) o) accepted;
            gives = gives (record { held = held; failed = r.failed }) r.relay;
          }

      -- or a prefix of it, up to a call that failed
      told_partly : BreaksRelay spread addresses w u → FrontsBytes spread guest held before GuestFault w u
      told_partly b =
          let r = links_relay b.met b.n b.frame b.relays in
          record {
            failed = r.failed;
            out = take b.given b.frame;
            links = r.links;
            accepted = ap (λ (c : Cell). c.accepted) b.cell ∙ ap (λ (o : Option (List ℕ)). option_map (λ x. x ++ take b.given b.frame) o) accepted;
            gives = (b.rose, inr (record { met = b.met; frame = b.frame; n = b.given; relay = r.relay; proper = b.proper; prefix_is = refl }));
          }

      module _ (touch : Touches GUEST w u) where
        -- where Guest alone is touched, the links are as they were
        still : (i : ℕ) → i < shards spread → u.at (link 1 + i) ≡ w.at (link 1 + i)
        still i l = let few = is.few in touch.others (link 1 + i) (omega (arith, few, l)) (λ e. omega (arith, e))

        -- its query was refused
        told_refused : (status : ℕ) → Dismisses (terms_of spread) (IsRefused status) w u → FrontsBytes spread guest held before (Refused status) w u
        told_refused status d =
            let told_is = at_told (IsDismissal (terms_of spread) (IsRefused status) d.n d.frame) (w.at GUEST).holds guest holds d.told in
            record {
              failed = λ i. false;
              out = d.frame;
              links = none_failed still;
              accepted = ap (λ (c : Cell). c.accepted) d.cell ∙ ap (λ (o : Option (List ℕ)). option_map (λ x. x ++ d.frame) o) accepted;
              gives = (ap (λ (c : Cell). c.faults) d.cell, (told_is.is, told_is.frame_is));
            }

        -- or it is gone
        told_gone : Dismisses (terms_of spread) IsGone w u → FrontsBytes spread guest held before Gone w u
        told_gone d =
            let told_is = at_told (IsDismissal (terms_of spread) IsGone d.n d.frame) (w.at GUEST).holds guest holds d.told in
            record {
              failed = λ i. false;
              out = d.frame;
              links = none_failed still;
              accepted = ap (λ (c : Cell). c.accepted) d.cell ∙ ap (λ (o : Option (List ℕ)). option_map (λ x. x ++ d.frame) o) accepted;
              gives = (ap (λ (c : Cell). c.faults) d.cell, (told_is.is, told_is.frame_is));
            }

        -- or a call on it failed before its query was taken, or as it was refused
        given_so : (n : ℕ) (given : List ℕ) → IsBrokenTaking (terms_of spread) n given guest
            → (given ≡ []) ⊎ IsPrefixOfRelay spread guest (record { held = held; failed = λ i. false }) given
        given_so n given (inl short) = inl short.nothing
        given_so n given (inr short) = inr (record {
          met = Refused short.status;
          frame = short.frame;
          n = short.size;
          relay = (short.refusal.is, short.refusal.frame_is);
          proper = short.proper;
          prefix_is = short.prefix_is;
        })

        -- and so the guest was given nothing, or a prefix of the frame of a refusal
        told_broken : BreaksTaking (terms_of spread) w u → FrontsBytes spread guest held before GuestFault w u
        told_broken b =
            let broken = at_told (IsBrokenTaking (terms_of spread) b.n b.given) (w.at GUEST).holds guest holds b.told in
            record {
              failed = λ i. false;
              out = b.given;
              links = none_failed still;
              accepted = ap (λ (c : Cell). c.accepted) b.cell ∙ ap (λ (o : Option (List ℕ)). option_map (λ x. x ++ b.given) o) accepted;
              gives = (b.rose, given_so b.n b.given broken);
            }

      -- whatever the guest was met with
      told_bytes : (met : Relayed) → Fronts spread addresses met w u → FrontsBytes spread guest held before met w u
      told_bytes Served a = told_whole Served a (λ links relay. (ap (λ (c : Cell). c.faults) a.cell, relay))
      told_bytes (ShardLost number) a = told_whole (ShardLost number) a (λ links relay. (ap (λ (c : Cell). c.faults) a.cell, relay))
      told_bytes (Refused status) (d, touch) = told_refused touch status d
      told_bytes Gone (d, touch) = told_gone touch d
      told_bytes GuestFault (inl (b, touch)) = told_broken touch b
      told_bytes GuestFault (inr b) = told_partly b

-- what was done with a guest, where that is told
pub fronts_told : (spread : Spread) (addresses : List (List ℕ)) (met : Relayed) (w u : World) → IsSpread spread
    → Fronts spread addresses met w u → FrontsTold spread met w u
fronts_told spread addresses met w u is fronts guest held before holds accepted told = told_bytes spread is guest held w u told addresses holds before accepted met fronts
