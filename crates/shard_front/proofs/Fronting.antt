-- The steps of a front, put together.
use Rattle.std.proofs.Common.{◌≡◌, ◌∙◌, inl, inr, ℕ, ◌+◌, ◌*◌, ◌<◌, ◌≤◌, List, [], ◌++◌, length, take, get_or, refl, sym, ap, subst, arith}
use Rattle.port_trait.specs.declared.port.TheConstants.{PORT_COUNT}
use Rattle.port_trait.specs.World.{Cell, World}
use Rattle.port_trait.specs.Number.{GUEST, link}
use Rattle.port_trait.specs.Moves.{RoseOnce, Touches, took, gave, counted}
use Rattle.port_trait.specs.Whole.{FailsWithin}
use Rattle.port_trait.specs.Each.{TouchesRange}
use Rattle.port_trait.proofs.Ranges.{each_after, each_before}
use Rattle.wire_frames.specs.declared.header.QueryHeader.{QueryHeader}
use Rattle.wire_frames.specs.Header.{answer_header}
use Rattle.serve_core.specs.Terms.{query_len_for}
use Rattle.serve_core.specs.Taking.{TakesQuery}
use Rattle.shard_front.specs.declared.relayed.Relayed.{Relayed}
use Rattle.shard_front.specs.declared.relayed.Relayed.TheVariants.{Served, Refused, Gone, GuestFault, ShardLost}
use Rattle.shard_front.specs.Spread.{IsSpread, Spread, shards, terms_of}
use Rattle.shard_front.specs.RelayedQuery.{RelayedQuery, taken_from}
use Rattle.shard_front.specs.Parts.{part_at}
use Rattle.shard_front.specs.Shard.{ShardAnswers, ShardIsLost}
use Rattle.shard_front.specs.Asked.{Asks, AllAnswer, FirstAnswer, SumsFirst, asked_for}
use Rattle.shard_front.specs.Stages.{Gives, RelaysQuery}
use Rattle.shard_front.specs.Fronted.{BreaksRelay, Fronts, IsRelayed, Relays, TouchesFirst}
use Rattle.shard_front.proofs.Summing.{combined_is}

-- all shards answered, and the frame has their sum behind the header
pub all_answer : (relay : RelayedQuery) (frame header sum : List ℕ) (w v : World)
    → frame ≡ header ++ sum → header ≡ answer_header relay.header 0 → length sum ≡ relay.header.count * relay.spread.width
    → SumsFirst relay (shards relay.spread) sum w v → AllAnswer relay frame w v
all_answer relay frame header sum w v is start long s = record {
  payloads = s.payloads;
  answer = s.answer;
  frame_is = is ∙ ap (λ (l : List ℕ). l ++ sum) start
      ∙ ap (λ (l : List ℕ). answer_header relay.header 0 ++ l)
      (combined_is (relay.header.count * relay.spread.width) s.payloads sum long s.sum_is);
}

module _ (relay : RelayedQuery) (is : IsSpread relay.spread) where
  -- what the first shards answered stays, whatever was done to the guest before and after
  first_between : (n : ℕ) (payloads : List (List ℕ)) (w v x u : World) → n ≤ shards relay.spread → Touches GUEST w v → Touches GUEST x u
      → FirstAnswer relay n payloads v x → FirstAnswer relay n payloads w u
  first_between n payloads w v x u few before after a =
      let few_shards = is.few in
      let fits : link 1 + n ≤ PORT_COUNT = omega arith in
      let R : ℕ → Cell → Cell → Type 0 = λ i. ShardAnswers (part_at relay i) (get_or payloads i []) in
      record {
        count = a.count;
        each = each_after R (link 1) n GUEST w x u fits (inl (omega arith))
            (each_before R (link 1) n GUEST w v x fits (inl (omega arith)) before a.each) after;
      }

  -- and so does what all of them did
  asks_between : (met : Relayed) (frame : List ℕ) (w v x u : World) → Touches GUEST w v → Touches GUEST x u
      → Asks relay met frame v x → Asks relay met frame w u
  asks_between Served frame w v x u before after a = record {
    payloads = a.payloads;
    answer = first_between (shards relay.spread) a.payloads w v x u (omega arith) before after a.answer;
    frame_is = a.frame_is;
  }
  asks_between (ShardLost number) frame w v x u before after (a, frame_is) =
      let few_shards = is.few in
      let there = a.there in
      let port = link 1 + a.place in
      let fits : port < PORT_COUNT = omega arith in
      let old : v.at port ≡ w.at port = before.others port fits (λ e. omega (arith, e)) in
      let new : u.at port ≡ x.at port = after.others port fits (λ e. omega (arith, e)) in (
        record {
          place = a.place;
          number_is = a.number_is;
          there = a.there;
          payloads = a.payloads;
          before = first_between a.place a.payloads w v x u (omega arith) before after a.before;
          lost = subst (λ (c : Cell). ShardIsLost (part_at relay a.place) c (u.at port)) old
              (subst (λ (d : Cell). ShardIsLost (part_at relay a.place) (v.at port) d) (sym new) a.lost);
        },
        frame_is,
      )
  asks_between (Refused status) frame w v x u before after a = absurd a
  asks_between Gone frame w v x u before after a = absurd a
  asks_between GuestFault frame w v x u before after a = absurd a

-- no more is touched than Guest and the links of those that were asked
touches_between : (n : ℕ) (w v x u : World) → Touches GUEST w v → TouchesRange (link 1) n v x → Touches GUEST x u → TouchesFirst n w u
touches_between n w v x u before links after = record {
  others = λ q within other out. after.others q within other ∙ links.others q within out ∙ before.others q within other;
  crowd = after.crowd ∙ links.crowd ∙ before.crowd;
  started = after.started ∙ links.started ∙ before.started;
}

-- a query was taken, and what the shards make of it was given to the guest
module _ (spread : Spread) (is : IsSpread spread) (query : QueryHeader) (slice : List ℕ) (addresses : List (List ℕ)) (w v u : World)
    (takes : TakesQuery (terms_of spread) query slice w v) (taken : Touches GUEST w v) (result : Relayed)
    (r : RelaysQuery (taken_from spread addresses query slice) result v u) where
  -- the query that was taken, as it is relayed
  abbrev relay : RelayedQuery
  relay = taken_from spread addresses query slice

  -- how many bytes it has
  abbrev n : ℕ
  n = query_len_for (terms_of spread) query.count

  -- the shards were asked for it
  relays : Relays spread addresses r.met n r.frame w u
  relays = record {
    query = query;
    vectors = relay.vectors;
    good = takes.good;
    size = refl;
    told = takes.told;
    asked = asks_between relay is r.met r.frame w v r.mid u taken r.others r.asked;
    others = touches_between (asked_for spread r.met) w v r.mid u taken r.links r.others;
  }

  -- Guest was left alone as the shards were asked
  guest_is : r.mid.at GUEST ≡ took n (w.at GUEST)
  guest_is = r.links.others GUEST (omega arith) (λ low high. omega (arith, low)) ∙ takes.cell

  -- the guest was given the whole frame
  whole : u.at GUEST ≡ gave r.frame (r.mid.at GUEST) → IsRelayed spread addresses r.met w u
  whole given = record { n = n; frame = r.frame; relays = relays; cell = given ∙ ap (gave r.frame) guest_is }

  -- or a prefix of it
  partly : FailsWithin GUEST r.frame r.mid u → BreaksRelay spread addresses w u
  partly f = record {
    met = r.met;
    n = n;
    frame = r.frame;
    given = f.n;
    relays = relays;
    proper = f.proper;
    cell = f.cell ∙ ap (λ (c : Cell). counted (u.at GUEST).faults (gave (take f.n r.frame) c)) guest_is;
    rose = subst (λ (k : ℕ). RoseOnce k (u.at GUEST).faults) (ap (λ (c : Cell). c.faults) guest_is) f.rose;
  }

  -- only a query that was asked of shards is met so
  by_met : (met : Relayed) → Asks relay met r.frame v r.mid → IsRelayed spread addresses met w u → Fronts spread addresses met w u
  by_met Served a relayed = relayed
  by_met (ShardLost number) a relayed = relayed
  by_met (Refused status) a relayed = absurd a
  by_met Gone a relayed = absurd a
  by_met GuestFault a relayed = absurd a

  -- and so the guest was met
  pub fronts_query : Fronts spread addresses result w u
  fronts_query = by_result r.gives
    where
      -- the whole frame was given, or a prefix of it
      by_result : Gives r.met r.frame result r.mid u → Fronts spread addresses result w u
      by_result (inl given) = subst (λ (m : Relayed). Fronts spread addresses m w u) (sym given.0) (by_met r.met r.asked (whole given.1))
      by_result (inr failed) = subst (λ (m : Relayed). Fronts spread addresses m w u) (sym failed.0) (inr (partly failed.1))
