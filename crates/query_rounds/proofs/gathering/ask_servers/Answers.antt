use Rattle.std.proofs.Common.{◌≡◌, ◌∙◌, ℕ, List, ◌++◌, length, take, drop, ap, sym, subst, arith}
use Rattle.std.specs.Prelude.{Bool, Result, Ok, Err}
use Rattle.std.specs.Result.{IsErrAnd}
use Rattle.std.proofs.lemmas.List.{take-append-le, take_all}
use Rattle.port_trait.specs.World.{World}
use Rattle.port_trait.specs.Number.{COINS, link}
use Rattle.port_trait.specs.Each.{TouchesRange}
use Rattle.port_trait.specs.Moves.{Touches}
use Rattle.wire_frames.specs.Session.{Transcript}
use Rattle.wire_frames.specs.Sizes.{answer_len}
use Rattle.query_rounds.specs.declared.plan.FetchFault.{FetchFault}
use Rattle.query_rounds.specs.declared.plan.FetchFault.TheVariants.{CoinsFault, CoinsEnded, Memory}
use Rattle.query_rounds.specs.Gathered.{AsksServers}
use Rattle.query_rounds.specs.Plan.{params_of}
use Rattle.query_rounds.specs.Queries.{Queries, request_of}
use Rattle.query_rounds.specs.Request.{Request}
use Rattle.query_rounds.specs.Sent.{empty_session, frame_len, reply_len}
use Rattle.query_rounds.specs.Tossed.{TakesOwnCoins}
use Rattle.query_rounds.proofs.Asking.{asks_with, links_asked}
use Rattle.query_rounds.proofs.gathering.ask_servers.Goals as goal

-- without the coins no server is asked
fails : (q : Queries) (fault : FetchFault) (result : Result (Unit {0}) FetchFault) (session : Transcript) (w v : World)
    → IsErrAnd result (λ told. told ≡ fault) → TakesOwnCoins q (Err fault) w v → Touches COINS w v
    → AsksServers q result session w v
fails q fault (Ok x) session w v h taken touch = absurd h
fails q CoinsFault (Err told) session w v h taken touch =
    subst (λ (f : FetchFault). AsksServers q (Err f) session w v) (sym h) (taken, touch)
fails q (CoinsEnded n) (Err told) session w v h taken touch =
    subst (λ (f : FetchFault). AsksServers q (Err f) session w v) (sym h) (taken, touch)
fails q Memory (Err told) session w v h taken touch = absurd taken

-- the session was given its number
numbered : (r : Request) (before after : Transcript) (number : ℕ) → before ≡ empty_session r 0
    → after ≡ record before { params = record before.params { session = number } } → after ≡ empty_session r number
numbered r before after number was is =
    is ∙ ap (λ (t : Transcript). record t { params = record t.params { session = number } }) was

-- the marks of all servers are those that were written
marks_are : (size : ℕ) (marks before seen : List Bool) → length marks ≡ size → seen ≡ take size (marks ++ drop (length marks) before)
    → seen ≡ marks
marks_are size marks before seen same is =
    is ∙ take-append-le size marks (drop (length marks) before) (omega (arith, same)) ∙ take_all size marks (omega (arith, same))

pub returns-in_err-take_coins-clause-request : goal.returns-in_err-take_coins-clause-request
returns-in_err-take_coins-clause-request g c = c.take_coins.ensures.request

pub returns-in_err-take_coins-clause-asked : goal.returns-in_err-take_coins-clause-asked
returns-in_err-take_coins-clause-asked g c =
    fails c.take_coins.new.self c.in_err-take_coins.field-0.0 c.from_residual.result c.args.room.now.session _ _
    c.from_residual.ensures.1 c.in_err-take_coins.ensures.taken c.take_coins.ensures.others

pub returns-in_err-take_coins-clause-others : goal.returns-in_err-take_coins-clause-others
returns-in_err-take_coins-clause-others g c =
    let touch = c.take_coins.ensures.others in
    record { others = λ q l coins links. touch.others q l coins; crowd = touch.crowd; started = touch.started }

pub set_session-requires : goal.set_session-requires
set_session-requires g c = ap (λ (t : Transcript). t.records) c.requires.session

pub ask_all-requires-clause-frame : goal.ask_all-requires-clause-frame
ask_all-requires-clause-frame g c =
    c.deref_mut.ensures.len ∙ c.requires.frame ∙ ap frame_len (sym c.take_coins.ensures.request)

pub ask_all-requires-clause-reached : goal.ask_all-requires-clause-reached
ask_all-requires-clause-reached g c =
    c.deref_mut-2.ensures.len ∙ c.requires.reached ∙ ap (λ (r : Request). r.plan.n) (sym c.take_coins.ensures.request)

pub take_all-requires-clause-reached : goal.take_all-requires-clause-reached
take_all-requires-clause-reached g c =
    let marks = marks_are c.args.room.now.reached.len c.ask_all.new.reached c.args.room.now.reached.items c.deref.result.now
    (c.ask_all.auto.reached ∙ c.deref_mut-2.ensures.len) c.deref.ensures.value in
    let session = numbered (request_of c.args.queries.now) c.args.room.now.session c.set_session.new.self
    c.session_number.result c.requires.session c.set_session.ensures in
    ap length marks ∙ c.ask_all.auto.reached ∙ c.deref_mut-2.ensures.len ∙ c.requires.reached
    ∙ sym (ap (λ (t : Transcript). t.params.n) session)

pub take_all-requires-clause-answer : goal.take_all-requires-clause-answer
take_all-requires-clause-answer g c =
    let session = numbered (request_of c.args.queries.now) c.args.room.now.session c.set_session.new.self
    c.session_number.result c.requires.session c.set_session.ensures in
    c.deref_mut-3.ensures.len ∙ c.requires.answer
    ∙ sym (ap (λ (t : Transcript). answer_len t.params.count t.params.s) session)

pub take_all-requires-clause-fresh : goal.take_all-requires-clause-fresh
take_all-requires-clause-fresh g c =
    let session = numbered (request_of c.args.queries.now) c.args.room.now.session c.set_session.new.self
    c.session_number.result c.requires.session c.set_session.ensures in
    ap (λ (t : Transcript). t.records) session

pub returns-clause-request : goal.returns-clause-request
returns-clause-request g c = c.take_coins.ensures.request

pub returns-clause-asked : goal.returns-clause-asked
returns-clause-asked g c =
    let queries = c.take_coins.new.self in
    let same = sym c.take_coins.ensures.request in
    let marks = marks_are c.args.room.now.reached.len c.ask_all.new.reached c.args.room.now.reached.items c.deref.result.now
    (c.ask_all.auto.reached ∙ c.deref_mut-2.ensures.len) c.deref.ensures.value in
    let numbered_is = numbered (request_of c.args.queries.now) c.args.room.now.session c.set_session.new.self
    c.session_number.result c.requires.session c.set_session.ensures in
    let servers = ap (λ (t : Transcript). t.params.n) numbered_is ∙ ap (λ (r : Request). r.plan.n) same in
    let most = c.deref_mut-3.ensures.len ∙ c.requires.answer ∙ ap reply_len same in
    let params = c.take_all.ensures.params ∙ ap (λ (t : Transcript). t.params) numbered_is
    ∙ ap (λ (r : Request). params_of r.plan (length r.blocks) c.session_number.result) same
    ∙ ap (params_of queries.plan (length queries.blocks)) c.session_number.ensures in
    asks_with queries c.ask_all.new.reached c.deref.result.now c.take_all.new.session _ (length c.deref_mut-3.result.now) _ _ _ _
    marks servers most (omega (arith, c.ask_all.ensures.few)) params c.take_all.ensures.whole
    c.in_ok-take_coins.ensures.taken c.take_coins.ensures.others c.ask_all.ensures.sent c.ask_all.ensures.others
    c.take_all.ensures.taken c.take_all.ensures.others

pub returns-clause-others : goal.returns-clause-others
returns-clause-others g c =
    let session = numbered (request_of c.args.queries.now) c.args.room.now.session c.set_session.new.self
    c.session_number.result c.requires.session c.set_session.ensures in
    let mid = g.P.Ports.world c.take_coins.new.ports in
    let sent = g.P.Ports.world c.ask_all.new.ports in
    let after = g.P.Ports.world c.take_all.new.ports in
    links_asked c.args.queries.now.plan.n _ mid sent after c.take_coins.ensures.others
    (subst (λ (r : Request). TouchesRange (link 1) r.plan.n mid sent) c.take_coins.ensures.request c.ask_all.ensures.others)
    (subst (λ (t : Transcript). TouchesRange (link 1) t.params.n sent after) session c.take_all.ensures.others)
