use Rattle.std.proofs.Common.{◌≡◌, ◌∙◌, ℕ, map, string_bytes, refl, subst, arith}
use Rattle.shard_front.specs.Spread.{IsSpread, shards}
use Rattle.commands.specs.FrontAnswers.{FrontsAll}
use Rattle.commands.specs.FrontSteps.{FrontsInTurn, FrontsNext}
use Rattle.commands.proofs.FrontAnswers.{fronts_none}
use Rattle.commands.proofs.Fronting.{front_dry, front_dry_touch, fronted_guests, fronted_more, fronted_none, fronted_touch, fronted_unnamed, fronts_next, relaying_door, relaying_touch}
use Rattle.commands.proofs.front_command.relay_guests.Goals as goal

pub guests-init : goal.guests-init
guests-init g c = record {
  front = refl;
  turns = fronted_none c.args.front.now (map string_bytes c.args.addresses.now) (g.P.Ports.world c.args.ports.now);
  guests = fronts_none c.args.front.now (g.P.Ports.world c.args.ports.now);
  unnamed = refl;
  door = refl;
  others = record { others = λ q l a b off. refl; crowd = tt; started = refl };
}

pub guests-preserved : goal.guests-preserved
guests-preserved g c =
    let i = c.guests.invariant in
    let start = g.P.Ports.world c.args.ports.now in
    let before = g.P.Ports.world c.guests.ports in
    let met = g.P.Ports.world c.next_guest.new.self in
    let after = g.P.Ports.world c.front_one.new.ports in
    let meets = c.in-Ok.ensures.ok in
    let addresses = map string_bytes c.args.addresses.now in
    let next : FrontsNext c.args.front.now addresses c.front_one.result before after = fronts_next _ _ addresses c.front_one.result before met after i.front meets c.front_one.ensures.fronts c.front_one.ensures.told in
    let few = (subst IsSpread i.front c.front_one.ensures.spread).few in
    let touches = fronted_touch c.args.front.now _ addresses c.front_one.result met after i.front c.front_one.ensures.fronts in
    record {
      front = c.front_one.ensures.kept ∙ i.front;
      turns = fronted_more c.args.front.now addresses c.guests.counter c.front_one.result start before after few i.turns next;
      guests = fronted_guests c.args.front.now _ addresses c.front_one.result c.guests.counter start before met after few i.front i.guests meets c.front_one.ensures.fronts c.front_one.ensures.told;
      unnamed = fronted_unnamed _ addresses c.front_one.result met after c.front_one.ensures.fronts ∙ meets.opened ∙ i.unnamed;
      door = relaying_door (shards c.args.front.now) start before met after i.door meets touches;
      others = relaying_touch (shards c.args.front.now) start before met after i.others meets touches;
    }

pub returns-in_default-clause-failed : goal.returns-in_default-clause-failed
returns-in_default-clause-failed g c =
    let i = c.guests.invariant in
    front_dry _ _ c.args.conns c.guests.counter (g.P.Ports.world c.args.ports.now) (g.P.Ports.world c.guests.ports) (g.P.Ports.world c.next_guest.new.self) (omega arith) i.door i.guests i.turns c.in_default.ensures.failed c.in_default.ensures.others

pub returns-in_default-clause-others : goal.returns-in_default-clause-others
returns-in_default-clause-others g c = front_dry_touch (shards c.args.front.now) (g.P.Ports.world c.args.ports.now) (g.P.Ports.world c.guests.ports) (g.P.Ports.world c.next_guest.new.self) c.guests.invariant.others c.in_default.ensures.others

pub returns-clause-turns : goal.returns-clause-turns
returns-clause-turns g c =
    let all : c.guests.counter ≡ c.args.conns = omega arith in
    subst (λ (n : ℕ). FrontsInTurn c.args.front.now (map string_bytes c.args.addresses.now) n (g.P.Ports.world c.args.ports.now) (g.P.Ports.world c.guests.ports)) all c.guests.invariant.turns

pub returns-clause-guests : goal.returns-clause-guests
returns-clause-guests g c =
    let all : c.guests.counter ≡ c.args.conns = omega arith in
    subst (λ (n : ℕ). FrontsAll c.args.front.now n (g.P.Ports.world c.args.ports.now) (g.P.Ports.world c.guests.ports)) all c.guests.invariant.guests

pub returns-clause-door : goal.returns-clause-door
returns-clause-door g c = c.guests.invariant.door

pub returns-clause-unnamed : goal.returns-clause-unnamed
returns-clause-unnamed g c = c.guests.invariant.unnamed

pub returns-clause-others : goal.returns-clause-others
returns-clause-others g c = c.guests.invariant.others
