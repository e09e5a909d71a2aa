use Rattle.std.proofs.Common.{◌≡◌, ◌∙◌, ℕ, List, inl, refl, ap, sym, subst}
use Rattle.std.specs.Prelude.{Result, Ok, Err}
use Rattle.std.specs.Result.{IsErrAnd}
use Rattle.port_trait.specs.World.{World}
use Rattle.wire_frames.specs.Session.{Transcript}
use Rattle.query_rounds.specs.declared.plan.FetchFault.{FetchFault}
use Rattle.query_rounds.specs.declared.plan.FetchFault.TheVariants.{CoinsFault, CoinsEnded, Memory}
use Rattle.query_rounds.specs.Gathered.{AsksServers, AsksWith, FetchesTo, TouchesLinks}
use Rattle.query_rounds.specs.Queries.{Queries, request_of}
use Rattle.query_rounds.specs.Request.{Request}
use Rattle.query_rounds.proofs.gathering.gather.Goals as goal

-- want of memory, before anything was touched
no_memory : {T : Type 0} (P : T → World → World → Type 0) (r : Request) (result : Result T FetchFault) (w : World)
    → IsErrAnd result (λ fault. fault ≡ Memory) → FetchesTo P r result w w
no_memory P r (Ok found) w h = absurd h
no_memory P r (Err fault) w h = subst (λ (f : FetchFault). FetchesTo P r (Err f) w w) (sym h) (inl refl)

-- where nothing is done nothing is touched
nothing_touched : (n : ℕ) (w : World) → TouchesLinks n w w
nothing_touched n w = record { others = λ q l coins links. refl; crowd = refl; started = refl }

-- what asking failed by is what the fetch fails by
module _ {T : Type 0} (P : T → World → World → Type 0) (q : Queries) (session : Transcript) (w v : World) where
  fails_as : (fault : FetchFault) → AsksServers q (Err fault) session w v → FetchesTo P (request_of q) (Err fault) w v
  fails_as CoinsFault asked = asked
  fails_as (CoinsEnded taken) asked = asked
  fails_as Memory asked = absurd asked

  failed : (r : Request) (fault : FetchFault) (result : Result T FetchFault) → request_of q ≡ r
      → IsErrAnd result (λ told. told ≡ fault) → AsksServers q (Err fault) session w v → FetchesTo P r result w v
  failed r fault (Ok found) is h asked = absurd h
  failed r fault (Err told) is h asked =
      subst (λ (f : FetchFault). FetchesTo P r (Err f) w v) (sym h)
      (subst (λ (s : Request). FetchesTo P s (Err fault) w v) is (fails_as fault asked))

pub with_room-requires-clause-plan : goal.with_room-requires-clause-plan
with_room-requires-clause-plan g c = c.requires.plan

pub with_room-requires-clause-blocks : goal.with_room-requires-clause-blocks
with_room-requires-clause-blocks g c = c.requires.blocks

pub with_room-requires-clause-addresses : goal.with_room-requires-clause-addresses
with_room-requires-clause-addresses g c = c.requires.addresses

pub ask_servers-requires-clause-session : goal.ask_servers-requires-clause-session
ask_servers-requires-clause-session g c = c.in_ok-room.ensures.session

pub ask_servers-requires-clause-frame : goal.ask_servers-requires-clause-frame
ask_servers-requires-clause-frame g c = c.in_ok-room.ensures.frame

pub ask_servers-requires-clause-answer : goal.ask_servers-requires-clause-answer
ask_servers-requires-clause-answer g c = c.in_ok-room.ensures.answer

pub ask_servers-requires-clause-reached : goal.ask_servers-requires-clause-reached
ask_servers-requires-clause-reached g c = c.in_ok-room.ensures.reached

pub returns-in_err-queries-clause-gathered : goal.returns-in_err-queries-clause-gathered
returns-in_err-queries-clause-gathered g c = no_memory _ _ _ _ c.from_residual.ensures.1

pub returns-in_err-ask_servers-clause-gathered : goal.returns-in_err-ask_servers-clause-gathered
returns-in_err-ask_servers-clause-gathered g c =
    failed _ c.ask_servers.new.queries c.ask_servers.new.room.session _ _ _ c.in_err-ask_servers.field-0.0
    c.from_residual-in_err-ask_servers.result (c.ask_servers.ensures.request ∙ c.in_ok-queries.ensures)
    c.from_residual-in_err-ask_servers.ensures.1 c.in_err-ask_servers.ensures.asked

pub returns-in_err-room-clause-gathered : goal.returns-in_err-room-clause-gathered
returns-in_err-room-clause-gathered g c = no_memory _ _ _ _ c.from_residual-in_err-room.ensures.1

pub returns-in_err-queries-clause-others : goal.returns-in_err-queries-clause-others
returns-in_err-queries-clause-others g c = nothing_touched c.args.plan.now.n _

pub returns-in_err-room-clause-others : goal.returns-in_err-room-clause-others
returns-in_err-room-clause-others g c = nothing_touched c.args.plan.now.n _

pub returns-in_err-ask_servers-clause-others : goal.returns-in_err-ask_servers-clause-others
returns-in_err-ask_servers-clause-others g c =
    subst (λ (r : Request). TouchesLinks r.plan.n (g.P.Ports.world c.args.ports.now) (g.P.Ports.world c.ask_servers.new.ports))
    c.in_ok-queries.ensures c.ask_servers.ensures.others

pub returns-clause-others : goal.returns-clause-others
returns-clause-others g c =
    subst (λ (r : Request). TouchesLinks r.plan.n (g.P.Ports.world c.args.ports.now) (g.P.Ports.world c.ask_servers.new.ports))
    c.in_ok-queries.ensures c.ask_servers.ensures.others

pub returns-clause-gathered : goal.returns-clause-gathered
returns-clause-gathered g c =
    let is = c.ask_servers.ensures.request ∙ c.in_ok-queries.ensures in
    record {
      request_is = is;
      asked = subst (λ (r : Request). AsksWith r c.ask_servers.new.queries.coins c.ask_servers.new.room.session
          (g.P.Ports.world c.args.ports.now) (g.P.Ports.world c.ask_servers.new.ports)) is c.in_ok-ask_servers.ensures.asked;
    }
