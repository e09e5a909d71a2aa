use Rattle.std.proofs.Common.{◌≡◌, ◌∙◌, ℕ, refl, subst, arith}
use Rattle.commands.specs.ServeSteps.{AttendsInTurn, ServesGuests, RepliesToGuests}
use Rattle.serve_core.proofs.ServingNext.{attends_next}
use Rattle.commands.proofs.InTurn.{turns_none, turns_more, attended_unnamed}
use Rattle.commands.proofs.Serving.{replying_none, replying_more, guests_none, guests_more, guests_touch, guests_door, guests_dry, guests_dry_touch}
use Rattle.commands.proofs.serve_command.serve_guests.Goals as goal

pub guests-init : goal.guests-init
guests-init g c = record {
  desk = refl;
  served = guests_none c.args.desk.now (g.P.Ports.world c.args.ports.now);
  replying = replying_none c.args.desk.now (g.P.Ports.world c.args.ports.now);
  turns = turns_none c.args.desk.now (g.P.Ports.world c.args.ports.now);
  unnamed = refl;
  door = refl;
  others = record { others = λ q l a b. refl; crowd = tt; started = refl };
}

pub guests-preserved : goal.guests-preserved
guests-preserved g c =
    let i = c.guests.invariant in
    let start = g.P.Ports.world c.args.ports.now in
    let before = g.P.Ports.world c.guests.ports in
    let met = g.P.Ports.world c.next_guest.new.self in
    let after = g.P.Ports.world c.serve_one.new.ports in
    let meets = c.in-Ok.ensures.ok in
    let touch = c.serve_one.ensures.others in
    record {
      desk = c.serve_one.ensures.kept ∙ i.desk;
      served = guests_more _ _ c.guests.counter c.serve_one.result start before met after i.desk i.served meets touch c.serve_one.ensures.attends;
      replying = replying_more _ _ c.guests.counter c.serve_one.result start before met after i.desk i.replying meets touch c.serve_one.ensures.attends;
      turns = turns_more c.args.desk.now c.guests.counter c.serve_one.result start before after i.turns (attends_next c.args.desk.now _ c.serve_one.result before met after i.desk meets c.serve_one.ensures.attends touch);
      unnamed = attended_unnamed _ c.serve_one.result met after c.serve_one.ensures.attends ∙ meets.opened ∙ i.unnamed;
      door = guests_door start before met after i.door meets touch;
      others = guests_touch start before met after i.others meets touch;
    }

pub returns-in_default-clause-failed : goal.returns-in_default-clause-failed
returns-in_default-clause-failed g c =
    let i = c.guests.invariant in
    guests_dry _ c.args.conns c.guests.counter (g.P.Ports.world c.args.ports.now) (g.P.Ports.world c.guests.ports) (g.P.Ports.world c.next_guest.new.self) (omega arith) i.door i.served i.turns c.in_default.ensures.failed c.in_default.ensures.others

pub returns-in_default-clause-others : goal.returns-in_default-clause-others
returns-in_default-clause-others g c = guests_dry_touch (g.P.Ports.world c.args.ports.now) (g.P.Ports.world c.guests.ports) (g.P.Ports.world c.next_guest.new.self) c.guests.invariant.others c.in_default.ensures.others

pub returns-clause-ok : goal.returns-clause-ok
returns-clause-ok g c =
    let all : c.guests.counter ≡ c.args.conns = omega arith in
    subst (λ (n : ℕ). ServesGuests c.args.desk.now n (g.P.Ports.world c.args.ports.now) (g.P.Ports.world c.guests.ports)) all c.guests.invariant.served

pub returns-clause-replied : goal.returns-clause-replied
returns-clause-replied g c = λ stayed.
    let all : c.guests.counter ≡ c.args.conns = omega arith in
    subst (λ (n : ℕ). RepliesToGuests c.args.desk.now n (g.P.Ports.world c.args.ports.now) (g.P.Ports.world c.guests.ports)) all (c.guests.invariant.replying.replied stayed)

pub returns-clause-turns : goal.returns-clause-turns
returns-clause-turns g c =
    let all : c.guests.counter ≡ c.args.conns = omega arith in
    subst (λ (n : ℕ). AttendsInTurn c.args.desk.now n (g.P.Ports.world c.args.ports.now) (g.P.Ports.world c.guests.ports)) all c.guests.invariant.turns

pub returns-clause-door : goal.returns-clause-door
returns-clause-door g c = c.guests.invariant.door

pub returns-clause-unnamed : goal.returns-clause-unnamed
returns-clause-unnamed g c = c.guests.invariant.unnamed

pub returns-clause-others : goal.returns-clause-others
returns-clause-others g c = c.guests.invariant.others
