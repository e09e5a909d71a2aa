use Rattle.std.proofs.Common.{◌≡◌, ◌∙◌, ℕ, ◌<◌, ◌≤◌, List, [], ◌∷◌, length, string_bytes, sym, ap, subst, arith}
use Rattle.std.specs.Prelude.{Err, Result}
use Rattle.std.proofs.lemmas.List.{length-map}
use Rattle.std.proofs.lemmas.Result.{err_from_is_err_and}
use Rattle.port_trait.specs.Number.{COINS}
use Rattle.wire_frames.specs.declared.scheme.TheConstants.{SHAMIR}
use Rattle.query_rounds.specs.declared.plan.FetchFault.{FetchFault}
use Rattle.query_rounds.specs.declared.plan.FetchPlan.{FetchPlan}
use Rattle.query_rounds.specs.Gathered.{TouchesLinks}
use Rattle.query_rounds.specs.Plan.{IsPlan}
use Rattle.query_rounds.specs.Request.{Request, request}
use Rattle.query_rounds.proofs.Ranges.{one_block}
use Rattle.fetch_client.specs.Fetched.{Concludes, Fetches}
use Rattle.key_search.specs.Standing.{Standing, asked_row, standing_at_start, turns_of}
use Rattle.key_fetches.specs.KeyRequest.{KeyRequest, key_request}
use Rattle.key_fetches.specs.Listed.{Ended}
use Rattle.key_fetches.specs.LookedUp.{LooksUp, at_start}
use Rattle.key_fetches.proofs.Asking.{links_more, links_none}
use Rattle.key_fetches.proofs.Progress.{ends_by_fault, looked_up, lost_is, nothing_done, turns_more, turns_none, width_told}
use Rattle.key_fetches.proofs.turns.look_up.Goals as goal

-- the search starts with the copy of the key
starts : (p : FetchPlan) (copied key : List ℕ) (addresses : List (List ℕ)) (r : KeyRequest) (s : Standing)
    → s ≡ standing_at_start p.r p.s copied → copied ≡ key → key_request p key addresses ≡ r → s ≡ at_start r.plan r.key
starts p copied key addresses r s is copy same =
    is ∙ ap (standing_at_start p.r p.s) copy ∙ ap (λ (v : KeyRequest). at_start v.plan v.key) same

-- the search has the turns of the plan's rows
turns_are : (r : KeyRequest) (s : Standing) (turns : ℕ) → s ≡ at_start r.plan r.key → turns ≡ turns_of s.rows
    → turns ≡ turns_of r.plan.r
turns_are r s turns start is = is ∙ ap (λ (t : Standing). turns_of t.rows) start

-- the row that the search asks for is one of the database
row_is_low : (p : FetchPlan) (key : List ℕ) (addresses : List (List ℕ)) (r : KeyRequest) (row rows : ℕ) → key_request p key addresses ≡ r
    → rows ≡ r.plan.r → row < rows → row < p.r
row_is_low p key addresses r row rows same is low =
    omega (arith, low, is, ap (λ (v : KeyRequest). v.plan.r) same)

-- what is said of a fetch of a row is said of the row that the search asks for
asked_as : (P : Request → Type 0) (p : FetchPlan) (key : List ℕ) (addresses : List (List ℕ)) (r : KeyRequest) (row asked : ℕ)
    → key_request p key addresses ≡ r → row ≡ asked → P (request p (row ∷ []) addresses) → P (request r.plan (asked ∷ []) r.addresses)
asked_as P p key addresses r row asked same is said =
    subst (λ (v : KeyRequest). P (request v.plan (asked ∷ []) v.addresses)) same
    (subst (λ (n : ℕ). P (request p (n ∷ []) addresses)) is said)

pub new-requires-clause-some : goal.new-requires-clause-some
new-requires-clause-some g c = c.request.invariant.plan.numbers.shape.some_rows

pub new-requires-clause-fits : goal.new-requires-clause-fits
new-requires-clause-fits g c = subst (λ (k : List ℕ). length k ≤ c.request.inside.plan.s) (sym c.in_ok-key.ensures) c.request.invariant.key

pub returns-in_err-key-clause-looked : goal.returns-in_err-key-clause-looked
returns-in_err-key-clause-looked g c =
    let fault = err_from_is_err_and c.from_residual.result c.from_residual.ensures.1 in
    let w = g.P.Ports.world c.args.ports.now in
    subst (λ (a : Result Ended FetchFault). LooksUp c.args.request.now a (w.at COINS) w w) (sym (fault.1 ∙ ap Err fault.2))
    (nothing_done c.args.request.now w)

pub returns-in_err-key-clause-others : goal.returns-in_err-key-clause-others
returns-in_err-key-clause-others g c = links_none c.args.request.now.plan.n (g.P.Ports.world c.args.ports.now)

pub returns-in_err-search-clause-looked : goal.returns-in_err-search-clause-looked
returns-in_err-search-clause-looked g c =
    let fault = err_from_is_err_and c.from_residual-in_err-search.result c.from_residual-in_err-search.ensures.1 in
    let w = g.P.Ports.world c.args.ports.now in
    subst (λ (a : Result Ended FetchFault). LooksUp c.args.request.now a (w.at COINS) w w) (sym (fault.1 ∙ ap Err fault.2))
    (nothing_done c.args.request.now w)

pub returns-in_err-search-clause-others : goal.returns-in_err-search-clause-others
returns-in_err-search-clause-others g c = links_none c.args.request.now.plan.n (g.P.Ports.world c.args.ports.now)

pub turns-init : goal.turns-init
turns-init g c =
    let w = g.P.Ports.world c.args.ports.now in
    record {
      so_far = turns_none c.args.request.now c.in_ok-search.search w
          (starts _ _ _ _ _ _ c.in_ok-search.ensures.standing c.in_ok-key.ensures c.request.view_is);
      others = links_none c.args.request.now.plan.n w;
    }

pub fetch-requires-clause-plan : goal.fetch-requires-clause-plan
fetch-requires-clause-plan g c = c.request.invariant.plan

pub fetch-requires-clause-blocks : goal.fetch-requires-clause-blocks
fetch-requires-clause-blocks g c =
    one_block c.request.inside.plan c.ask.result c.request.invariant.plan
    (row_is_low _ _ _ _ _ _ c.request.view_is c.turns.invariant.so_far.rows_is c.ask.ensures.row)

pub fetch-requires-clause-addresses : goal.fetch-requires-clause-addresses
fetch-requires-clause-addresses g c =
    sym (length-map c.request.inside.addresses.now string_bytes) ∙ c.request.invariant.addresses

pub returns-in_err-_session-clause-looked : goal.returns-in_err-_session-clause-looked
returns-in_err-_session-clause-looked g c =
    let fault = err_from_is_err_and c.from_residual-in_err-_session.result c.from_residual-in_err-_session.ensures.1 in
    let r = c.args.request.now in
    let old = g.P.Ports.world c.args.ports.now in
    let mid = g.P.Ports.world c.turns.ports in
    let new = g.P.Ports.world c.fetch.new.ports in
    let so_far = c.turns.invariant.so_far in
    let turns = turns_are r c.in_ok-search.search c.turns-turn-end.result
    (starts _ _ _ _ _ _ c.in_ok-search.ensures.standing c.in_ok-key.ensures c.request.view_is) c.turns-turn-end.ensures.turns in
    let few : c.turns._turn < turns_of r.plan.r = omega (arith, c.turns-test.true, turns) in
    let low : asked_row c.turns.search < r.plan.r = omega (arith, c.ask.ensures.row, c.ask.ensures.asked, so_far.rows_is) in
    subst (λ (a : Result Ended FetchFault). LooksUp r a (old.at COINS) old new) (sym (fault.1 ∙ ap Err fault.2))
    (ends_by_fault r _ _ _ _ old mid new so_far low _ (subst (λ (v : KeyRequest). IsPlan v.plan) c.request.view_is c.request.invariant.plan) few
    (asked_as (λ (q : Request). Fetches q (Err c.in_err-_session.field-0.0) mid new) _ _ _ _ _ _ c.request.view_is c.ask.ensures.asked
    c.in_err-_session.ensures.fetched))

pub returns-in_err-_session-clause-others : goal.returns-in_err-_session-clause-others
returns-in_err-_session-clause-others g c =
    links_more _ _ _ _ c.turns.invariant.others
    (subst (λ (v : KeyRequest). TouchesLinks v.plan.n (g.P.Ports.world c.turns.ports) (g.P.Ports.world c.fetch.new.ports)) c.request.view_is
    c.fetch.ensures.others)

pub tell-requires-clause-turn : goal.tell-requires-clause-turn
tell-requires-clause-turn g c =
    let h = c.turns.invariant.so_far in
    let r = c.args.request.now in
    let turns = turns_are r c.in_ok-search.search c.turns-turn-end.result
    (starts _ _ _ _ _ _ c.in_ok-search.ensures.standing c.in_ok-key.ensures c.request.view_is) c.turns-turn-end.ensures.turns in
    let same : turns_of c.turns.search.rows ≡ turns_of r.plan.r = ap turns_of h.rows_is in
    omega (arith, c.turns-test.true, turns, same, h.turn_is)

pub tell-requires-clause-width : goal.tell-requires-clause-width
tell-requires-clause-width g c =
    let r = c.args.request.now in
    let mid = g.P.Ports.world c.turns.ports in
    let new = g.P.Ports.world c.fetch.new.ports in
    let so_far = c.turns.invariant.so_far in
    let low : asked_row c.turns.search < r.plan.r = omega (arith, c.ask.ensures.row, c.ask.ensures.asked, so_far.rows_is) in
    width_told r _ _ _ _ _ mid new so_far low c.in_ok-_session._session c.in_ok-_session.verdict
    (subst (λ (v : KeyRequest). v.plan.scheme ≡ SHAMIR) c.request.view_is c.request.invariant.shamir)
    (asked_as (λ (q : Request). Concludes q c.in_ok-_session._session c.in_ok-_session.verdict mid new) _ _ _ _ _ _
    c.request.view_is c.ask.ensures.asked c.in_ok-_session.ensures.fetched)

pub turns-preserved : goal.turns-preserved
turns-preserved g c =
    let r = c.args.request.now in
    let mid = g.P.Ports.world c.turns.ports in
    let new = g.P.Ports.world c.fetch.new.ports in
    let so_far = c.turns.invariant.so_far in
    let low : asked_row c.turns.search < r.plan.r = omega (arith, c.ask.ensures.row, c.ask.ensures.asked, so_far.rows_is) in
    record {
      so_far = turns_more r _ _ _ _ _ mid new so_far low c.in_ok-_session._session c.in_ok-_session.verdict _ _
          (asked_as (λ (q : Request). Concludes q c.in_ok-_session._session c.in_ok-_session.verdict mid new) _ _ _ _ _ _
          c.request.view_is c.ask.ensures.asked c.in_ok-_session.ensures.fetched)
          c.tell.ensures.standing c.tell.ensures.unlisted;
      others = links_more _ _ _ _ c.turns.invariant.others
          (subst (λ (v : KeyRequest). TouchesLinks v.plan.n mid new) c.request.view_is c.fetch.ensures.others);
    }

pub invariant_of-result : goal.invariant_of-result
invariant_of-result g c =
    let h = c.turns.invariant.so_far in
    let r = c.args.request.now in
    let turns = turns_are r c.in_ok-search.search c.turns-turn-end.result
    (starts _ _ _ _ _ _ c.in_ok-search.ensures.standing c.in_ok-key.ensures c.request.view_is) c.turns-turn-end.ensures.turns in
    let all : c.turns._turn ≡ turns_of r.plan.r = omega (arith, c.turns-test.false, c.turns.auto._turn-end, turns) in
    (h.turn_is ∙ all ∙ ap turns_of (sym h.rows_is), lost_is _ _ _ _ _ _ _ h)

pub returns-clause-looked : goal.returns-clause-looked
returns-clause-looked g c =
    let r = c.args.request.now in
    let turns = turns_are r c.in_ok-search.search c.turns-turn-end.result
    (starts _ _ _ _ _ _ c.in_ok-search.ensures.standing c.in_ok-key.ensures c.request.view_is) c.turns-turn-end.ensures.turns in
    let all : c.turns._turn ≡ turns_of r.plan.r = omega (arith, c.turns-test.false, c.turns.auto._turn-end, turns) in
    looked_up _ _ _ _ _ _ _ c.turns.invariant.so_far
    (subst (λ (v : KeyRequest). IsPlan v.plan) c.request.view_is c.request.invariant.plan) all

pub returns-clause-others : goal.returns-clause-others
returns-clause-others g c = c.turns.invariant.others
