-- The steps of `front`, put together.
use Rattle.std.proofs.Common.{◌≡◌, ◌⊎◌, inl, inr, ◌∙◌, ℕ, ◌+◌, ◌<◌, ◌≤◌, Bool, List, cond, refl, sym, ap, subst, arith}
use Rattle.std.specs.Prelude.{Ok, Err, nat_le}
use Rattle.std.proofs.lemmas.Bool.{cases_lt, le-leb, lt-leb}
use Rattle.port_trait.specs.World.{Cell, World}
use Rattle.port_trait.specs.Number.{OUTPUT, DOOR, GUEST, link}
use Rattle.port_trait.specs.Moves.{RoseAtMost, RoseOnce, Touches, Fails, counted, gave}
use Rattle.port_trait.specs.Guests.{Meets}
use Rattle.port_trait.proofs.Rises.{at_most_once, at_most_still, once_rose}
use Rattle.pir_words.specs.FrontForm.{IsFront}
use Rattle.quantity_limits.specs.declared.TheConstants.{MOST_SHARDS}
use Rattle.shard_front.specs.declared.relayed.Relayed.{Relayed}
use Rattle.shard_front.specs.declared.relayed.Relayed.TheVariants.{Served, Refused, Gone, GuestFault, ShardLost}
use Rattle.shard_front.specs.Spread.{IsSpread, Spread, shards}
use Rattle.shard_front.specs.Fronted.{Fronts, Relays, TouchesFirst}
use Rattle.shard_front.specs.Relay.{FrontsTold}
use Rattle.shard_front.proofs.Counting.{guest_once, link_once}
use Rattle.commands.specs.Told.{NoneRose}
use Rattle.commands.specs.ServeSteps.{ready, Listens, TouchesDoor}
use Rattle.commands.specs.FrontOrder.{FrontOrder}
use Rattle.commands.specs.FrontAnswers.{FrontsAll}
use Rattle.commands.specs.FrontSteps.{FrontRunsDry, FrontsInTurn, FrontsNext, TouchesRelaying}
use Rattle.commands.specs.FrontOutcome.{FrontEnds, FrontPromise, FrontedAll, FrontedSome, TouchesFront, own_ports}
use Rattle.commands.proofs.FrontAnswers.{fronts_from, fronts_more, fronts_still}
use Rattle.commands.specs.declared.status.Status.{Status}
use Rattle.commands.specs.declared.status.Status.TheVariants.{One, WriteFault, DoorFault, Memory}

-- the values of `front` are those of a front
pub front_spread : (r s k conns n : ℕ) → IsFront r s k conns n → IsSpread (record { rows = r; width = s; shard = k })
front_spread r s k conns n is = record {
  shape = is.shape;
  some = is.some_on_each;
  within = is.within;
  few = let each = is.one_for_each in let few = is.few_shards in omega (arith, each, few);
}

-- where Guest alone is touched, no more is touched than by asking n shards
touches_guest : (n : ℕ) (m u : World) → Touches GUEST m u → TouchesFirst n m u
touches_guest n m u t = record { others = λ q l off between. t.others q l off; crowd = t.crowd; started = t.started }

-- where k links were touched, no more than n are, which are as many or more
touches_more : (k n : ℕ) (m u : World) → k ≤ n → TouchesFirst k m u → TouchesFirst n m u
touches_more k n m u few t = record {
  others = λ q l off between. t.others q l off (λ from below. between from (omega (arith, few, below)));
  crowd = t.crowd;
  started = t.started;
}

-- a guest whose query was good touches no more than the links to all shards
relays_touch : (spread : Spread) (addresses : List (List ℕ)) (met : Relayed) (n : ℕ) (frame : List ℕ) (m u : World) → Relays spread addresses met n frame m u → TouchesFirst (shards spread) m u
relays_touch spread addresses Served n frame m u r = r.others
relays_touch spread addresses (ShardLost number) n frame m u r =
    let lost = r.asked.0 in
    let is = lost.number_is in
    let there = lost.there in
    touches_more number (shards spread) m u (omega (arith, is, there)) r.others
relays_touch spread addresses (Refused status) n frame m u r = absurd r.asked
relays_touch spread addresses Gone n frame m u r = absurd r.asked
relays_touch spread addresses GuestFault n frame m u r = absurd r.asked

-- and so does any guest
fronts_touch : (spread : Spread) (addresses : List (List ℕ)) (met : Relayed) (m u : World) → Fronts spread addresses met m u → TouchesFirst (shards spread) m u
fronts_touch spread addresses Served m u f = relays_touch spread addresses Served f.n f.frame m u f.relays
fronts_touch spread addresses (ShardLost number) m u f = relays_touch spread addresses (ShardLost number) f.n f.frame m u f.relays
fronts_touch spread addresses (Refused status) m u f = touches_guest (shards spread) m u f.1
fronts_touch spread addresses Gone m u f = touches_guest (shards spread) m u f.1
fronts_touch spread addresses GuestFault m u (inl broke) = touches_guest (shards spread) m u broke.1
fronts_touch spread addresses GuestFault m u (inr broke) = relays_touch spread addresses broke.met broke.n broke.frame m u broke.relays

-- no guest is opened by a name
pub fronted_unnamed : (spread : Spread) (addresses : List (List ℕ)) (met : Relayed) (m u : World) → Fronts spread addresses met m u → (u.at GUEST).opened ≡ (m.at GUEST).opened
fronted_unnamed spread addresses Served m u f = ap (λ (c : Cell). c.opened) f.cell
fronted_unnamed spread addresses (ShardLost number) m u f = ap (λ (c : Cell). c.opened) f.cell
fronted_unnamed spread addresses (Refused status) m u f = ap (λ (c : Cell). c.opened) f.0.cell
fronted_unnamed spread addresses Gone m u f = ap (λ (c : Cell). c.opened) f.0.cell
fronted_unnamed spread addresses GuestFault m u (inl broke) = ap (λ (c : Cell). c.opened) broke.0.cell
fronted_unnamed spread addresses GuestFault m u (inr broke) = ap (λ (c : Cell). c.opened) broke.cell

-- one guest came in and was met, by a front that is as it was
pub fronts_next : (spread now : Spread) (addresses : List (List ℕ)) (met : Relayed) (v m u : World) → now ≡ spread
    → Meets v m → Fronts now addresses met m u → FrontsTold now met m u → FrontsNext spread addresses met v u
fronts_next spread now addresses met v m u same meets fronts told =
    let fronts_so = subst (λ (d : Spread). Fronts d addresses met m u) same fronts in
    record {
      mid = m;
      meets = meets;
      fronts = fronts_so;
      told = subst (λ (d : Spread). FrontsTold d met m u) same told;
      others = fronts_touch spread addresses met m u fronts_so;
    }

-- a guest that a front that is as it was met touches no more than the links to all shards
pub fronted_touch : (spread now : Spread) (addresses : List (List ℕ)) (met : Relayed) (m u : World) → now ≡ spread → Fronts now addresses met m u → TouchesFirst (shards spread) m u
fronted_touch spread now addresses met m u same fronts = fronts_touch spread addresses met m u (subst (λ (d : Spread). Fronts d addresses met m u) same fronts)

-- one guest more, by a front that is as it was
pub fronted_guests : (spread now : Spread) (addresses : List (List ℕ)) (met : Relayed) (n : ℕ) (w v m u : World) → shards spread ≤ MOST_SHARDS → now ≡ spread → FrontsAll spread n w v → Meets v m
    → Fronts now addresses met m u → FrontsTold now met m u → FrontsAll spread (n + 1) w u
fronted_guests spread now addresses met n w v m u few same s meets fronts told =
    let fronts_so = subst (λ (d : Spread). Fronts d addresses met m u) same fronts in
    fronts_more spread addresses met n w v m u few s meets (fronted_touch spread now addresses met m u same fronts) fronts_so (subst (λ (d : Spread). FrontsTold d met m u) same told)

-- before the first guest
pub fronted_none : (spread : Spread) (addresses : List (List ℕ)) (w : World) → FrontsInTurn spread addresses 0 w w
fronted_none spread addresses w = record {
  worlds = λ i. w;
  mets = λ i. Gone;
  first = refl;
  last = refl;
  each = λ i l. absurd (omega arith);
  guest_faults = omega arith;
  link_faults = λ i l. omega arith;
}

module _ (spread : Spread) (addresses : List (List ℕ)) where
  -- the same guest, met so, between the same worlds
  moved : (m m' : Relayed) (a a' b b' : World) → m ≡ m' → a ≡ a' → b ≡ b' → FrontsNext spread addresses m a b → FrontsNext spread addresses m' a' b'
  moved m m' a a' b b' p q r h = subst (λ (x : Relayed). FrontsNext spread addresses x a' b') p (subst (λ (x : World). FrontsNext spread addresses m x b') q (subst (λ (x : World). FrontsNext spread addresses m a x) r h))

  -- one guest more, while whom at most one call failed on Guest
  guest_more : (n : ℕ) (met : Relayed) (w v u : World) → RoseAtMost n (w.at GUEST).faults (v.at GUEST).faults
      → FrontsNext spread addresses met v u → RoseAtMost (n + 1) (w.at GUEST).faults (u.at GUEST).faults
  guest_more n met w v u few next = elim (guest_once spread addresses met next.mid u next.fronts) [
    | inl still ↦ at_most_still n (w.at GUEST).faults (v.at GUEST).faults (u.at GUEST).faults few (still ∙ next.meets.faults)
    | inr once ↦ at_most_once n (w.at GUEST).faults (v.at GUEST).faults (u.at GUEST).faults few (subst (λ (k : ℕ). RoseOnce k (u.at GUEST).faults) next.meets.faults once)
  ]

  -- and on each link
  link_more : (n i : ℕ) (met : Relayed) (w v u : World) → shards spread ≤ MOST_SHARDS → i < shards spread
      → RoseAtMost n (w.at (link 1 + i)).faults (v.at (link 1 + i)).faults → FrontsNext spread addresses met v u
      → RoseAtMost (n + 1) (w.at (link 1 + i)).faults (u.at (link 1 + i)).faults
  link_more n i met w v u most there few next =
      let same : (next.mid.at (link 1 + i)).faults ≡ (v.at (link 1 + i)).faults = ap (λ (c : Cell). c.faults) (next.meets.others (link 1 + i) (omega (arith, most, there)) (omega arith)) in
      elim (link_once spread addresses next.mid u most i there met next.fronts) [
        | inl still ↦ at_most_still n (w.at (link 1 + i)).faults (v.at (link 1 + i)).faults (u.at (link 1 + i)).faults few (still ∙ same)
        | inr once ↦ at_most_once n (w.at (link 1 + i)).faults (v.at (link 1 + i)).faults (u.at (link 1 + i)).faults few (subst (λ (k : ℕ). RoseOnce k (u.at (link 1 + i)).faults) same once)
      ]

  -- one guest more
  pub fronted_more : (n : ℕ) (met : Relayed) (w v u : World) → shards spread ≤ MOST_SHARDS
      → FrontsInTurn spread addresses n w v → FrontsNext spread addresses met v u
      → FrontsInTurn spread addresses (n + 1) w u
  fronted_more n met w v u most t next = record {
    worlds = worlds;
    mets = mets;
    first = before 0 (omega arith) ∙ t.first;
    last = after (n + 1) (omega arith);
    each = λ i l. elim (cases_lt i n) [
      | inl less ↦ moved (t.mets i) (mets i) (t.worlds i) (worlds i) (t.worlds (i + 1)) (worlds (i + 1)) (sym (met_before i less)) (sym (before i (omega (arith, less)))) (sym (before (i + 1) (omega (arith, less)))) (t.each i less)
      | inr more ↦
          let last : i ≡ n = omega (arith, l, more) in
          moved met (mets i) v (worlds i) u (worlds (i + 1))
          (sym (met_after i more))
          (sym (before i (omega (arith, last)) ∙ ap t.worlds last ∙ t.last))
          (sym (after (i + 1) (omega (arith, more)))) next
    ];
    guest_faults = guest_more n met w v u t.guest_faults next;
    link_faults = λ i l. link_more n i met w v u most l (t.link_faults i l) next;
  }
    where
      -- the worlds of the chain, one more
      worlds : ℕ → World
      worlds i = cond (nat_le i n) (t.worlds i) u

      -- what each guest was met with, one more
      mets : ℕ → Relayed
      mets i = cond (nat_le (i + 1) n) (t.mets i) met

      -- up to the last they are those of before
      before : (i : ℕ) → i ≤ n → worlds i ≡ t.worlds i
      before i l = ap (λ (b : Bool). cond b (t.worlds i) u) (le-leb i n l)

      -- and behind it the new one
      after : (i : ℕ) → n < i → worlds i ≡ u
      after i l = ap (λ (b : Bool). cond b (t.worlds i) u) (lt-leb i n l)

      -- each guest before was met as before
      met_before : (i : ℕ) → i < n → mets i ≡ t.mets i
      met_before i l = ap (λ (b : Bool). cond b (t.mets i) met) (le-leb (i + 1) n (omega (arith, l)))

      -- and the last one as it was
      met_after : (i : ℕ) → n ≤ i → mets i ≡ met
      met_after i l = ap (λ (b : Bool). cond b (t.mets i) met) (lt-leb (i + 1) n (omega (arith, l)))

-- Door, Guest and the links alone are touched by one guest more
pub relaying_touch : (n : ℕ) (w v m u : World) → TouchesRelaying n w v → Meets v m → TouchesFirst n m u → TouchesRelaying n w u
relaying_touch n w v m u s meets t = record {
  others = λ q l ne5 ne6 off. t.others q l ne6 off ∙ meets.others q l ne6 ∙ s.others q l ne5 ne6 off;
  crowd = tt;
  started = t.started ∙ meets.started ∙ s.started;
}

-- Door stays
pub relaying_door : (n : ℕ) (w v m u : World) → v.at DOOR ≡ w.at DOOR → Meets v m → TouchesFirst n m u → u.at DOOR ≡ w.at DOOR
relaying_door n w v m u same meets t = t.others 5 (omega arith) (omega arith) (λ from below. omega (arith, from)) ∙ meets.others 5 (omega arith) (omega arith) ∙ same

-- no further guest comes in
pub front_dry : (spread : Spread) (addresses : List (List ℕ)) (n served : ℕ) (w v u : World) → served < n
    → v.at DOOR ≡ w.at DOOR → FrontsAll spread served w v → FrontsInTurn spread addresses served w v → Fails DOOR v u
    → Touches DOOR v u → FrontRunsDry spread addresses n w u
front_dry spread addresses n served w v u fewer same guests turns fails touch = record {
  served = served;
  fewer = fewer;
  guests = fronts_still spread served w v u guests touch;
  last = v;
  turns = turns;
  none = fails;
  others = touch;
  door = fails.cell ∙ ap (counted (u.at DOOR).faults) same;
  rose = subst (λ (c : Cell). RoseOnce c.faults (u.at DOOR).faults) same fails.rose;
}

-- and then Door, Guest and the links alone were touched
pub front_dry_touch : (n : ℕ) (w v u : World) → TouchesRelaying n w v → Touches DOOR v u → TouchesRelaying n w u
front_dry_touch n w v u s touch = record {
  others = λ q l ne5 ne6 off. touch.others q l ne5 ∙ s.others q l ne5 ne6 off;
  crowd = tt;
  started = touch.started ∙ s.started;
}

-- guests can't come in, or that can't be written
pub front_not_ready : (o : FrontOrder) (w u : World) (status : Status) → Listens o.listen (Err status) w u → TouchesDoor w u → FrontEnds o status w u
front_not_ready o w u WriteFault l t = (l, t)
front_not_ready o w u DoorFault l t = inl (l, t)
front_not_ready o w u status l t = absurd l

-- before the first guest no more than Output and Door was touched
pub front_touches_door : (n : ℕ) (w u : World) → TouchesDoor w u → TouchesFront n w u
front_touches_door n w u t = record { others = λ q b n1 n5 n6 off. t.others q b n1 n5; crowd = tt; started = t.started }

-- nor of Guest
front_guest_stays : (w u : World) → TouchesDoor w u → u.at GUEST ≡ w.at GUEST
front_guest_stays w u t = t.others 6 (omega arith) (omega arith) (omega arith)

-- guests can come in
module _ (o : FrontOrder) (front : Spread) (w u x : World) (is : front ≡ o.spread) (l : Listens o.listen (Ok tt) w u) (t : TouchesDoor w u)
    (given : TouchesRelaying (shards front) u x) where
  -- no more is touched than by asking the shards
  g : TouchesRelaying (shards o.spread) u x
  g = subst (λ (d : Spread). TouchesRelaying (shards d) u x) is given

  -- Output has what says that guests can come in
  output_is : x.at OUTPUT ≡ gave ready (w.at OUTPUT)
  output_is = g.others 1 (omega arith) (omega arith) (omega arith) (λ from below. omega (arith, from)) ∙ l.written

  -- the guests are those from the start on
  before_them : (n : ℕ) → FrontsAll front n u x → FrontsAll o.spread n w x
  before_them n guests = fronts_from o.spread n w u x t.crowd (front_guest_stays w u t) (subst (λ (d : Spread). FrontsAll d n u x) is guests)

  -- all guests were met
  pub fronted_all : FrontsInTurn front o.addresses o.conns u x → FrontsAll front o.conns u x → x.at DOOR ≡ u.at DOOR → FrontedAll o w x
  fronted_all turns guests same = record {
    door = same ∙ l.door;
    written = output_is;
    listening = u;
    nobody = t;
    turns = subst (λ (d : Spread). FrontsInTurn d o.addresses o.conns u x) is turns;
    guests = before_them o.conns guests;
  }

  -- no further guest came in
  pub fronted_some : FrontRunsDry front o.addresses o.conns u x → FrontedSome o w x
  fronted_some dry = record {
    door = dry.door ∙ ap (counted (x.at DOOR).faults) l.door;
    rose = subst (λ (c : Cell). RoseOnce c.faults (x.at DOOR).faults) l.door dry.rose;
    written = output_is;
    listening = u;
    nobody = t;
    served = dry.served;
    fewer = dry.fewer;
    last = dry.last;
    turns = subst (λ (d : Spread). FrontsInTurn d o.addresses dry.served u dry.last) is dry.turns;
    none = dry.none;
    others = dry.others;
    guests = before_them dry.served dry.guests;
  }

-- Output, Door, Guest and the links alone were touched
pub front_touches : (o : FrontOrder) (front : Spread) (w u x : World) → front ≡ o.spread → TouchesDoor w u → TouchesRelaying (shards front) u x → TouchesFront (shards o.spread) w x
front_touches o front w u x is t given =
    let g = subst (λ (d : Spread). TouchesRelaying (shards d) u x) is given in
    record { others = λ q b n1 n5 n6 off. g.others q b n5 n6 off ∙ t.others q b n1 n5; crowd = tt; started = g.started ∙ t.started }

-- Door's count rose
front_door_rose : (o : FrontOrder) (old new : World) → NoneRose own_ports old new → FrontEnds o DoorFault old new → ⊥
front_door_rose o old new none (inl shut) = none.1.0 (once_rose _ _ shut.0.rose)
front_door_rose o old new none (inr dry) = none.1.0 (once_rose _ _ dry.rose)

-- each guest is met
front_met : (o : FrontOrder) (status : Status) (old new : World) → NoneRose own_ports old new → FrontEnds o status old new → ((status ≡ One) × FrontedAll o old new) ⊎ (status ≡ Memory)
front_met o One old new none said = inl (refl, said)
front_met o WriteFault old new none said = absurd (none.0 (once_rose _ _ said.0.written.rose))
front_met o DoorFault old new none said = absurd (front_door_rose o old new none said)
front_met o Memory old new none said = inr refl
front_met o status old new none said = absurd said

-- what is promised of `front`
pub front_promised : (o : FrontOrder) (status : Status) (old new : World) → FrontEnds o status old new → FrontPromise o status old new
front_promised o status old new said = record { served = λ none. front_met o status old new none said }
