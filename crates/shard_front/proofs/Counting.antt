-- By how much the counts of Guest and of the links rise while one guest is met.
use Rattle.std.proofs.Common.{◌≡◌, ◌⊎◌, inl, inr, ℕ, ◌+◌, ◌<◌, ◌≤◌, List, sym, ap, subst, arith}
use Rattle.std.proofs.lemmas.Bool.{cases_eq, cases_lt}
use Rattle.quantity_limits.specs.declared.TheConstants.{MOST_SHARDS}
use Rattle.port_trait.specs.World.{Cell, World}
use Rattle.port_trait.specs.Number.{GUEST, link}
use Rattle.port_trait.specs.Moves.{RoseOnce, Touches}
use Rattle.shard_front.specs.declared.relayed.Relayed.{Relayed}
use Rattle.shard_front.specs.declared.relayed.Relayed.TheVariants.{Served, Refused, Gone, GuestFault, ShardLost}
use Rattle.shard_front.specs.Spread.{Spread, shards}
use Rattle.shard_front.specs.RelayedQuery.{relayed_over}
use Rattle.shard_front.specs.Parts.{Part, part_at}
use Rattle.shard_front.specs.Shard.{ShardAnswers, ShardIsLost}
use Rattle.shard_front.specs.Fronted.{Fronts, Relays}

-- a count is as it was, or rose by one
abbrev pub OnceAtMost : ℕ → ℕ → Type 0
OnceAtMost before after = (after ≡ before) ⊎ RoseOnce before after

-- the count of Guest
pub guest_once : (spread : Spread) (addresses : List (List ℕ)) (met : Relayed) (w u : World) → Fronts spread addresses met w u
    → OnceAtMost (w.at GUEST).faults (u.at GUEST).faults
guest_once spread addresses Served w u f = inl (ap (λ (c : Cell). c.faults) f.cell)
guest_once spread addresses (ShardLost number) w u f = inl (ap (λ (c : Cell). c.faults) f.cell)
guest_once spread addresses (Refused status) w u f = inl (ap (λ (c : Cell). c.faults) f.0.cell)
guest_once spread addresses Gone w u f = inl (ap (λ (c : Cell). c.faults) f.0.cell)
guest_once spread addresses GuestFault w u (inl broke) = inr broke.0.rose
guest_once spread addresses GuestFault w u (inr broke) = inr broke.rose

-- the count of the link to a shard that answered
answered_still : (part : Part) (payload : List ℕ) (c d : Cell) → ShardAnswers part payload c d → d.faults ≡ c.faults
answered_still part payload c d a = ap (λ (x : Cell). x.faults) a.answered.cell

-- and of that to one that is lost
lost_once : (part : Part) (c d : Cell) → ShardIsLost part c d → OnceAtMost c.faults d.faults
lost_once part c d (inl broke) = inr broke.rose
lost_once part c d (inr bad) = inl (ap (λ (x : Cell). x.faults) bad.answered.cell)

module _ (spread : Spread) (addresses : List (List ℕ)) (w u : World) (few : shards spread ≤ MOST_SHARDS) (i : ℕ) (there : i < shards spread) where
  -- the count of each link, where the shards were asked
  relays_once : (met : Relayed) (n : ℕ) (frame : List ℕ) → Relays spread addresses met n frame w u → OnceAtMost (w.at (link 1 + i)).faults (u.at (link 1 + i)).faults
  relays_once Served n frame r =
      let part = part_at (relayed_over spread addresses r.query r.vectors) i in
      inl (answered_still part _ (w.at (link 1 + i)) (u.at (link 1 + i)) (r.asked.answer.each.each i there))
  relays_once (ShardLost number) n frame r =
      let lost = r.asked.0 in
      let part = part_at (relayed_over spread addresses r.query r.vectors) in
      let place = lost.place in
      let number_is = lost.number_is in
      elim (cases_eq i place) [
        | inl same ↦
            subst (λ (k : ℕ). OnceAtMost (w.at (link 1 + k)).faults (u.at (link 1 + k)).faults) (sym same)
            (lost_once (part place) (w.at (link 1 + place)) (u.at (link 1 + place)) lost.lost)
        | inr other ↦ elim (cases_lt i place) [
          | inl low ↦ inl (answered_still (part i) _ (w.at (link 1 + i)) (u.at (link 1 + i)) (lost.before.each.each i low))
          | inr high ↦
              inl (ap (λ (c : Cell). c.faults)
              (r.others.others (link 1 + i) (omega (arith, few, there)) (λ e. omega (arith, e)) (λ from below. other (omega (arith, below, high, number_is)))))
        ]
      ]
  relays_once (Refused status) n frame r = absurd r.asked
  relays_once Gone n frame r = absurd r.asked
  relays_once GuestFault n frame r = absurd r.asked

  -- the same where none was
  untouched : Touches GUEST w u → OnceAtMost (w.at (link 1 + i)).faults (u.at (link 1 + i)).faults
  untouched touch = inl (ap (λ (c : Cell). c.faults) (touch.others (link 1 + i) (omega (arith, few, there)) (λ e. omega (arith, e))))

  -- the count of each link
  pub link_once : (met : Relayed) → Fronts spread addresses met w u → OnceAtMost (w.at (link 1 + i)).faults (u.at (link 1 + i)).faults
  link_once Served f = relays_once Served f.n f.frame f.relays
  link_once (ShardLost number) f = relays_once (ShardLost number) f.n f.frame f.relays
  link_once (Refused status) f = untouched f.1
  link_once Gone f = untouched f.1
  link_once GuestFault (inl broke) = untouched broke.1
  link_once GuestFault (inr broke) = relays_once broke.met broke.n broke.frame broke.relays
