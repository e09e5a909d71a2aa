-- The steps of `serve`, put together.
use Rattle.std.proofs.Common.{◌≡◌, inl, ℕ, ◌+◌, ◌-◌, ◌^◌, ◌<◌, ◌≤◌, min, List, sym, ◌∙◌, ap, ap₂, subst, arith}
use Rattle.std.specs.Prelude.{Ok, Err}
use Rattle.port_trait.specs.World.{Cell, World, answers}
use Rattle.port_trait.specs.Number.{OUTPUT, DATABASE, DOOR, GUEST}
use Rattle.port_trait.specs.Moves.{Rose, RoseOnce, Touches, Fails, named, counted, gave}
use Rattle.port_trait.proofs.Carried.{fails_writing_before}
use Rattle.port_trait.specs.Guests.{Meets}
use Rattle.port_trait.specs.Serving.{Served as IsServing}
use Rattle.port_trait.proofs.Served.{served_none, served_still, served_more}
use Rattle.block_matrix.specs.Database.{Database}
use Rattle.serve_core.specs.Service.{Service}
use Rattle.serve_core.specs.Attended.{Replied, Broke, Attends, HasReply, IsServed}
use Rattle.serve_core.specs.declared.met.Met.{Met}
use Rattle.serve_core.specs.declared.met.Met.TheVariants.{Served, Refused, Gone, GuestFault}
use Rattle.serve_core.proofs.ServingOne.{serves_one, replies_one}
use Rattle.commands.specs.Told.{DidRise}
use Rattle.commands.specs.ServeOrder.{ServeOrder, service_of}
use Rattle.commands.specs.declared.status.Status.{Status}
use Rattle.commands.specs.declared.status.Status.TheVariants.{ReadFault, WriteFault, BadInput, DoorFault, Memory}
use Rattle.commands.specs.declared.status.Bad.TheVariants.{EmptyFile, TooBig}
use Rattle.commands.specs.ServeSteps.{ready, AttendsInTurn, Loaded, OpensDesk, HasOpenDesk, Listens, TouchesDoor, TouchesAtDesk, ServesGuests, RepliesToGuests, RunsDry, TouchesGuests}
use Rattle.commands.specs.ServeOutcome.{Nobody, ServeEnds, ServedAll, NoFurtherGuest, CannotListen, CannotSayReady, TouchesServer}

-- no guest was served yet
pub guests_none : (service : Service) (w : World) → ServesGuests service 0 w w
guests_none service w = served_none (IsServed service) w

-- what the guests so far were given, where the count of Guest hasn't risen; it is no less than it was
pub record Replying (service : Service) (n : ℕ) (w v : World) : Type 0 where
  pub least : min (w.at GUEST).faults (2 ^ 64 - 1) ≤ (v.at GUEST).faults
  pub replied : (DidRise GUEST w v → ⊥) → RepliesToGuests service n w v

-- before the first guest
pub replying_none : (service : Service) (w : World) → Replying service 0 w w
replying_none service w = record {
  least = omega arith;
  replied = λ stayed. served_none (λ guest out before after. HasReply service guest out) w;
}

-- one guest more, which was given its whole reply
replying_answered : (service : Service) (met : Met) (n : ℕ) (w v m u : World) → Replying service n w v → Meets v m → Touches GUEST m u → Replied service met m u → Replying service (n + 1) w u
replying_answered service met n w v m u r meets touch a =
    let same : (u.at GUEST).faults ≡ (v.at GUEST).faults = ap (λ (c : Cell). c.faults) a.cell ∙ meets.faults in
    record {
      least = let least = r.least in omega (arith, same);
      replied = λ stayed. served_more (λ guest out before after. HasReply service guest out) n w v m u (r.replied (λ rose. stayed (subst (λ (k : ℕ). Rose (w.at GUEST).faults k) (sym same) rose))) meets touch (replies_one service met m u a);
    }

-- one guest more, on which a call failed
replying_broken : (service : Service) (n : ℕ) (w v m u : World) → Replying service n w v → Meets v m → Broke service m u → Replying service (n + 1) w u
replying_broken service n w v m u r meets b =
    let same : (m.at GUEST).faults ≡ (v.at GUEST).faults = meets.faults in
    let rose = b.rose in
    let least = r.least in
    record {
      least = omega arith;
      replied = λ stayed. absurd (stayed (omega arith));
    }

-- whatever it was met with
pub replying_more : (service now : Service) (n : ℕ) (met : Met) (w v m u : World) → now ≡ service
    → Replying service n w v → Meets v m → Touches GUEST m u → Attends now met m u → Replying service (n + 1) w u
replying_more service now n met w v m u same r meets touch attends = by met (subst (λ (d : Service). Attends d met m u) same attends)
  where
    -- however it was met
    by : (met : Met) → Attends service met m u → Replying service (n + 1) w u
    by Served a = replying_answered service Served n w v m u r meets touch a
    by (Refused status) a = replying_answered service (Refused status) n w v m u r meets touch a
    by Gone a = replying_answered service Gone n w v m u r meets touch a
    by GuestFault a = replying_broken service n w v m u r meets a

-- one guest more
pub guests_more : (service now : Service) (n : ℕ) (met : Met) (w v m u : World) → now ≡ service
    → ServesGuests service n w v → Meets v m → Touches GUEST m u → Attends now met m u
    → ServesGuests service (n + 1) w u
guests_more service now n met w v m u same s meets touch attends = served_more (IsServed service) n w v m u s meets touch (serves_one service met m u (subst (λ (d : Service). Attends d met m u) same attends))

-- Door and Guest alone are touched by one guest more
pub guests_touch : (w v m u : World) → TouchesGuests w v → Meets v m → Touches GUEST m u → TouchesGuests w u
guests_touch w v m u s meets touch = record {
  others = λ q l ne5 ne6. touch.others q l ne6 ∙ meets.others q l ne6 ∙ s.others q l ne5 ne6;
  crowd = tt;
  started = touch.started ∙ meets.started ∙ s.started;
}

-- Door stays
pub guests_door : (w v m u : World) → v.at DOOR ≡ w.at DOOR → Meets v m → Touches GUEST m u → u.at DOOR ≡ w.at DOOR
guests_door w v m u same meets touch = touch.others 5 (omega arith) (omega arith) ∙ meets.others 5 (omega arith) (omega arith) ∙ same

-- no further guest comes in
pub guests_dry : (service : Service) (n served : ℕ) (w v u : World) → served < n → v.at DOOR ≡ w.at DOOR
    → ServesGuests service served w v → AttendsInTurn service served w v → Fails DOOR v u → Touches DOOR v u
    → RunsDry service n w u
guests_dry service n served w v u fewer same s turns fails touch = record {
  served = served;
  fewer = fewer;
  guests = served_still (IsServed service) served 5 w v u s touch (omega arith);
  last = v;
  turns = turns;
  none = fails;
  others = touch;
  door = fails.cell ∙ ap (counted (u.at DOOR).faults) same;
  rose = subst (λ (c : Cell). RoseOnce c.faults (u.at DOOR).faults) same fails.rose;
}

-- and then Door and Guest alone were touched
pub guests_dry_touch : (w v u : World) → TouchesGuests w v → Touches DOOR v u → TouchesGuests w u
guests_dry_touch w v u s touch = record {
  others = λ q l ne5 ne6. touch.others q l ne5 ∙ s.others q l ne5 ne6;
  crowd = tt;
  started = touch.started ∙ s.started;
}

-- a world with the same guests, and the same of the one that is in
module _ (F : List ℕ → List ℕ → ℕ → ℕ → Type 0) where
  -- what is told of guests is told from before
  same_guests : (n : ℕ) (w u x : World) → u.crowd ≡ w.crowd → u.at GUEST ≡ w.at GUEST → IsServing F n u x → IsServing F n w x
  same_guests n w u x crowd guest s = record {
    told = λ gs others earlier before a b c d.
        s.told gs others earlier before
        (ap (λ k. k.guests) crowd ∙ a)
        ((λ i. answers (crowd i).since (crowd i).gone (guest i).accepted) ∙ b)
        (ap (λ k. k.since) crowd ∙ c)
        (ap (λ (k : Cell). k.accepted) guest ∙ d);
  }

-- so they were served from before
served_from : (service : Service) (n : ℕ) (w u x : World) → u.crowd ≡ w.crowd → u.at GUEST ≡ w.at GUEST → ServesGuests service n u x → ServesGuests service n w x
served_from service = same_guests (IsServed service)

-- and given their replies
replied_from : (service : Service) (n : ℕ) (w u x : World) → u.crowd ≡ w.crowd → u.at GUEST ≡ w.at GUEST → RepliesToGuests service n u x → RepliesToGuests service n w x
replied_from service = same_guests (λ guest out before after. HasReply service guest out)

-- the database is loaded, which later calls leave alone
loaded_still : (name : List ℕ) (width : ℕ) (database : Database) (w v u : World) → Loaded name width database w v → u.at DATABASE ≡ v.at DATABASE → Loaded name width database w u
loaded_still name width database w v u l same = record { read = l.read; cell = same ∙ l.cell; file = l.file; all = l.all }

-- the desk is open
module _ (o : ServeOrder) (service : Service) (w v : World) (has : HasOpenDesk o service w v) where
  -- the database that was loaded
  abbrev database : Database
  database = service.database

  -- it is served as the words say
  service_is : service ≡ record { database = database; scheme = o.scheme; workers = o.workers }
  service_is = ap₂ (λ (s k : ℕ). record { database = database; scheme = s; workers = k }) has.opens.0 has.opens.1

  -- Door isn't touched before
  door_is : v.at DOOR ≡ w.at DOOR
  door_is = has.others.others 5 (omega arith) (omega arith)

  -- nobody came in before the guests could
  nobody : (u : World) → TouchesDoor v u → Nobody w u
  nobody u t = record {
    guest = t.others 6 (omega arith) (omega arith) (omega arith) ∙ has.others.others 6 (omega arith) (omega arith);
    crowd = t.crowd ∙ has.others.crowd;
  }

  -- the database is loaded then too
  loaded_after : (u : World) → TouchesDoor v u → Loaded o.database o.width database w u
  loaded_after u t = loaded_still o.database o.width database w v u has.opens.2 (t.others 2 (omega arith) (omega arith) (omega arith))

  -- nobody can come in
  cannot_listen : (u : World) → Listens o.listen (Err DoorFault) v u → TouchesDoor v u → CannotListen o w u
  cannot_listen u l t = record {
    database = database;
    loaded = loaded_after u t;
    door = l.door ∙ ap (counted (u.at DOOR).faults) door_is;
    rose = subst (λ (c : Cell). RoseOnce c.faults (u.at DOOR).faults) door_is l.rose;
    output = l.output ∙ has.others.others 1 (omega arith) (omega arith);
    nobody = nobody u t;
  }

  -- that guests can come in can't be written
  cannot_say_ready : (u : World) → Listens o.listen (Err WriteFault) v u → TouchesDoor v u → CannotSayReady o w u
  cannot_say_ready u l t = record {
    database = database;
    loaded = loaded_after u t;
    door = l.door ∙ ap (named o.listen) door_is;
    written = fails_writing_before 1 w v u (has.others.others 1 (omega arith) (omega arith)) ready l.written;
    nobody = nobody u t;
  }

  -- so the run ends
  pub not_ready : (status : Status) (u : World) → Listens o.listen (Err status) v u → TouchesDoor v u → ServeEnds o status w u
  not_ready WriteFault u l t = cannot_say_ready u l t
  not_ready DoorFault u l t = inl (cannot_listen u l t)
  not_ready status u l t = absurd l

  -- guests can come in
  module _ (u x : World) (l : Listens o.listen (Ok tt) v u) (t : TouchesDoor v u) (g : TouchesGuests u x) where
    -- Output has what says that guests can come in
    output_is : x.at OUTPUT ≡ gave ready (w.at OUTPUT)
    output_is = g.others 1 (omega arith) (omega arith) (omega arith) ∙ l.written ∙ ap (gave ready) (has.others.others 1 (omega arith) (omega arith))

    -- the database is loaded at the end too
    loaded_at_end : Loaded o.database o.width database w x
    loaded_at_end = loaded_still o.database o.width database w u x (loaded_after u t) (g.others 2 (omega arith) (omega arith) (omega arith))

    -- the guests are those from the start on
    guests_from : (n : ℕ) → ServesGuests service n u x → ServesGuests (service_of o database) n w x
    guests_from n s = subst (λ (d : Service). ServesGuests d n w x) service_is (let none = nobody u t in served_from service n w u x none.crowd none.guest s)

    -- Door is opened by its name
    door_opened : u.at DOOR ≡ named o.listen (w.at DOOR)
    door_opened = l.door ∙ ap (named o.listen) door_is

    -- they are served as the words say
    turns_from : (n : ℕ) (y : World) → AttendsInTurn service n u y → AttendsInTurn (service_of o database) n u y
    turns_from n y turns = subst (λ (d : Service). AttendsInTurn d n u y) service_is turns

    -- all guests were served
    pub served_all : ServesGuests service o.conns u x → AttendsInTurn service o.conns u x → ((DidRise GUEST u x → ⊥) → RepliesToGuests service o.conns u x) → x.at DOOR ≡ u.at DOOR → ServedAll o w x
    served_all s turns r same = record {
      database = database;
      loaded = loaded_at_end;
      door = same ∙ door_opened;
      written = output_is;
      listening = u;
      nobody = nobody u t;
      turns = turns_from o.conns x turns;
      guests = guests_from o.conns s;
      replied = λ stayed.
          let none = nobody u t in
          subst (λ (d : Service). RepliesToGuests d o.conns w x) service_is
          (replied_from service o.conns w u x none.crowd none.guest (r (λ rose. stayed (subst (λ (c : Cell). Rose c.faults (x.at GUEST).faults) none.guest rose))));
    }

    -- no further guest came in
    pub no_further_guest : RunsDry service o.conns u x → NoFurtherGuest o w x
    no_further_guest dry = record {
      database = database;
      loaded = loaded_at_end;
      door = dry.door ∙ ap (counted (x.at DOOR).faults) door_opened;
      rose = subst (λ (c : Cell). RoseOnce c.faults (x.at DOOR).faults) door_opened dry.rose;
      written = output_is;
      served = dry.served;
      fewer = dry.fewer;
      listening = u;
      nobody = nobody u t;
      last = dry.last;
      turns = turns_from dry.served dry.last dry.turns;
      none = dry.none;
      others = dry.others;
      guests = guests_from dry.served dry.guests;
    }

-- before the first guest no more than Output and Door was touched
pub door_touches : (v u : World) → TouchesDoor v u → TouchesAtDesk v u
door_touches v u t = record { others = λ q b n1 n5 n6. t.others q b n1 n5; crowd = tt; started = t.started }

-- and then no more than Door and Guest
pub desk_touches : (v u x : World) → TouchesDoor v u → TouchesGuests u x → TouchesAtDesk v x
desk_touches v u x t g = record { others = λ q b n1 n5 n6. g.others q b n5 n6 ∙ t.others q b n1 n5; crowd = tt; started = g.started ∙ t.started }

-- and before the desk was open, Database
pub server_touches : (w v x : World) → Touches DATABASE w v → TouchesAtDesk v x → TouchesServer w x
server_touches w v x touch t = record { others = λ q b n1 n2 n5 n6. t.others q b n1 n5 n6 ∙ touch.others q b n2; crowd = tt; started = t.started ∙ touch.started }

-- where no more than Database was touched, no more than a server touches was
pub database_touches : (w v : World) → Touches DATABASE w v → TouchesServer w v
database_touches w v touch = record { others = λ q b n1 n2 n5 n6. touch.others q b n2; crowd = tt; started = touch.started }

-- Guest is opened by no name
pub unnamed_by_door : (v u : World) → TouchesDoor v u → (u.at GUEST).opened ≡ (v.at GUEST).opened
unnamed_by_door v u t = ap (λ (c : Cell). c.opened) (t.others 6 (omega arith) (omega arith) (omega arith))

-- nor is it by loading the database
pub unnamed_by_database : (w v : World) → Touches DATABASE w v → (v.at GUEST).opened ≡ (w.at GUEST).opened
unnamed_by_database w v touch = ap (λ (c : Cell). c.opened) (touch.others 6 (omega arith) (omega arith))

-- the desk can't be opened, so the run ends
pub desk_not_open : (o : ServeOrder) (status : Status) (w v : World) → OpensDesk o (Err status) w v → Touches DATABASE w v → ServeEnds o status w v
desk_not_open o ReadFault w v opens touch = (opens, touch)
desk_not_open o (BadInput EmptyFile) w v opens touch = (opens, touch)
desk_not_open o (BadInput (TooBig most)) w v opens touch = (opens, touch)
desk_not_open o Memory w v opens touch = (opens, touch)
desk_not_open o status w v opens touch = absurd opens
