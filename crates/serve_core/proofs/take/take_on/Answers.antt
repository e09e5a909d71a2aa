use Rattle.std.proofs.Common.{refl, arith}
use Rattle.port_trait.specs.Number.{GUEST}
use Rattle.port_trait.proofs.Cells.{touches_more}
use Rattle.serve_core.proofs.Taking.{breaks_first, ends_first, takes_payload, takes_refusal}
use Rattle.serve_core.proofs.take.take_on.Goals as goal

pub returns-in-Ok-clause-takes : goal.returns-in-Ok-clause-takes
returns-in-Ok-clause-takes g c =
    let long = c.take_payload.auto.query in
    let fits = c.take_payload.ensures.fits in
    takes_payload c.args.terms _ c.read_exactly.new.into _ _ c.read_exactly.auto.into c.in-Full.ensures.filled
    c.in-Ok.asked c.in-Ok.ensures _ c.take_payload.new.query (g.P.Ports.world c.take_payload.new.ports)
    (omega (arith, long, fits)) c.take_payload.ensures.handles

pub returns-in-Err-clause-takes : goal.returns-in-Err-clause-takes
returns-in-Err-clause-takes g c =
    takes_refusal c.args.terms _ c.read_exactly.new.into _ _ c.read_exactly.auto.into c.in-Full.ensures.filled
    c.in-Err.refusal _ _ (g.P.Ports.world c.refuse.new.ports) c.in-Err.ensures c.refuse.ensures.gives

pub returns-in-Ended-clause-takes : goal.returns-in-Ended-clause-takes
returns-in-Ended-clause-takes g c = ends_first c.args.terms c.in-Ended.field-0 _ c.read_exactly.new.into _ _ refl c.in-Ended.ensures.filled

pub returns-in-Failed-clause-takes : goal.returns-in-Failed-clause-takes
returns-in-Failed-clause-takes g c = breaks_first c.args.terms _ _ c.in-Failed.ensures.filled

pub returns-in-Ok-clause-others : goal.returns-in-Ok-clause-others
returns-in-Ok-clause-others g c =
    touches_more GUEST (g.P.Ports.world c.args.ports.now) (g.P.Ports.world c.read_exactly.new.ports) (g.P.Ports.world c.take_payload.new.ports)
    c.read_exactly.ensures.others c.take_payload.ensures.others

pub returns-in-Err-clause-others : goal.returns-in-Err-clause-others
returns-in-Err-clause-others g c =
    touches_more GUEST (g.P.Ports.world c.args.ports.now) (g.P.Ports.world c.read_exactly.new.ports) (g.P.Ports.world c.refuse.new.ports)
    c.read_exactly.ensures.others c.refuse.ensures.others

pub take_payload-requires-clause-room : goal.take_payload-requires-clause-room
take_payload-requires-clause-room g c = c.requires.room

pub slice_bounds-read_exactly-end : goal.slice_bounds-read_exactly-end
slice_bounds-read_exactly-end g c = refl

pub returns-in-Ended-clause-others : goal.returns-in-Ended-clause-others
returns-in-Ended-clause-others g c = c.read_exactly.ensures.others

pub returns-in-Failed-clause-others : goal.returns-in-Failed-clause-others
returns-in-Failed-clause-others g c = c.read_exactly.ensures.others

pub take_payload-requires-clause-suited : goal.take_payload-requires-clause-suited
take_payload-requires-clause-suited g c = c.in-Ok.ensures
