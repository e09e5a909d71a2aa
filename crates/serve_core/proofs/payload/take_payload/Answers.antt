use Rattle.std.proofs.Common.{◌≡◌, ◌≤◌, ◌∙◌, ℕ, List, ◌++◌, length, drop, subst, sym, arith}
use Rattle.std.proofs.lemmas.List.{length-take-le, take_at}
use Rattle.port_trait.specs.World.{World}
use Rattle.wire_frames.specs.declared.header.QueryHeader.{QueryHeader}
use Rattle.serve_core.specs.Terms.{payload_len_for}
use Rattle.serve_core.specs.Taking.{payload_in}
use Rattle.serve_core.specs.Stages.{HandlesPayload}
use Rattle.serve_core.specs.declared.terms.Terms.{Terms}
use Rattle.serve_core.specs.declared.taken.Taken.{Taken}
use Rattle.serve_core.proofs.RoomFor.{payload_fits}
use Rattle.serve_core.proofs.payload.take_payload.Goals as goal

-- what is done with a payload, told of the start of a longer slice
handles_start : (terms : Terms) (query : QueryHeader) (taken : Taken) (vectors rest : List ℕ) (w v : World)
    → length vectors ≡ payload_len_for terms query.count → HandlesPayload terms query taken vectors w v
    → HandlesPayload terms query taken (payload_in terms query (vectors ++ rest)) w v
handles_start terms query taken vectors rest w v size handles =
    subst (λ (l : List ℕ). HandlesPayload terms query taken l w v) (sym (take_at vectors rest (payload_len_for terms query.count) size)) handles

pub slice_bounds-payload-end : goal.slice_bounds-payload-end
slice_bounds-payload-end g c =
    let suited = c.requires.suited in
    omega (arith, c.payload_len.ensures.is, c.requires.room, payload_fits c.args.terms c.args.asked.now suited.is.is.range suited.shape)

pub slice_bounds-payload-end-2 : goal.slice_bounds-payload-end-2
slice_bounds-payload-end-2 g c =
    let suited = c.requires.suited in
    let fits = payload_fits c.args.terms c.args.asked.now suited.is.is.range suited.shape in
    sym (length-take-le c.payload_len.result c.args.query.now (omega (arith, c.payload_len.ensures.is, c.requires.room, fits)))

pub take_into-requires-clause-room : goal.take_into-requires-clause-room
take_into-requires-clause-room g c =
    let suited = c.requires.suited in
    let fits = payload_fits c.args.terms c.args.asked.now suited.is.is.range suited.shape in
    length-take-le c.payload_len.result c.args.query.now (omega (arith, c.payload_len.ensures.is, c.requires.room, fits)) ∙ c.payload_len.ensures.is

pub returns-clause-fits : goal.returns-clause-fits
returns-clause-fits g c =
    let suited = c.requires.suited in
    omega (arith, c.requires.room, payload_fits c.args.terms c.args.asked.now suited.is.is.range suited.shape)

pub take_into-requires-clause-suited : goal.take_into-requires-clause-suited
take_into-requires-clause-suited g c = c.requires.suited

pub returns-clause-others : goal.returns-clause-others
returns-clause-others g c = c.take_into.ensures.others

pub returns-clause-handles : goal.returns-clause-handles
returns-clause-handles g c =
    let suited = c.requires.suited in
    let fits : c.payload_len.result ≤ length c.args.query.now
    = omega (arith, c.payload_len.ensures.is, c.requires.room, payload_fits c.args.terms c.args.asked.now suited.is.is.range suited.shape) in
    handles_start c.args.terms c.args.asked.now c.take_into.result c.take_into.new.query (drop c.payload_len.result c.args.query.now)
    (g.P.Ports.world c.args.ports.now) (g.P.Ports.world c.take_into.new.ports)
    (c.take_into.auto.query ∙ (length-take-le c.payload_len.result c.args.query.now fits ∙ c.payload_len.ensures.is)) c.take_into.ensures.handles
