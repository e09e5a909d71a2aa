use Rattle.std.proofs.Common.{◌≡◌, ◌∙◌, ℕ, ◌*◌, ◌<◌, ◌≤◌, Bor, List, length, map, string_bytes, refl, sym, ap, subst, arith}
use Rattle.std.specs.Prelude.{Err, IfSome, Result}
use Rattle.std.proofs.lemmas.List.{length-map}
use Rattle.std.proofs.lemmas.Result.{err_from_is_err_and}
use Rattle.port_trait.specs.Number.{COINS}
use Rattle.query_rounds.specs.declared.plan.FetchFault.{FetchFault}
use Rattle.query_rounds.specs.Gathered.{TouchesLinks}
use Rattle.query_rounds.specs.Plan.{IsPlan}
use Rattle.query_rounds.specs.Request.{Request}
use Rattle.query_rounds.specs.Sent.{session_number}
use Rattle.fetch_client.specs.Fetched.{Concludes, Fetches}
use Rattle.key_fetches.specs.Listed.{only_block}
use Rattle.key_fetches.proofs.Asking.{links_more, links_none}
use Rattle.list_finds.specs.Found.{Come, FindsKeys}
use Rattle.list_finds.specs.Held.{Held}
use Rattle.list_finds.specs.Wanted.{Wanted, keys_each, keys_of, queries_for}
use Rattle.list_finds.proofs.Progress.{ends_by_fault, found_all, next_room, queries_more, queries_none}
use Rattle.list_finds.proofs.Requests.{are_blocks, asked_as, keys_are, low_as, queries_as, rows_are, some_each, tells_as}
use Rattle.list_finds.proofs.Widths.{width_listed}
use Rattle.list_finds.proofs.finding.find_keys.Goals as goal

pub queries-init : goal.queries-init
queries-init g c =
    let w = c.args.search in
    record {
      so_far = queries_none w c.search.inside.answers (g.P.Ports.world c.args.ports.now)
          (ap (λ (h : Held). h.answers) c.search.invariant.1)
          (ap (λ (h : Held). h.room) c.search.invariant.1
          ∙ sym (length-map c.search.inside.keys.now (λ (k : Bor (List ℕ)). k.now))
          ∙ ap (λ (v : Wanted). length v.keys) c.search.view_is)
          (ap (λ (h : Held). h.most) c.search.invariant.1 ∙ ap (λ (v : Wanted). v.list.most) c.search.view_is);
      others = links_none w.plan.n (g.P.Ports.world c.args.ports.now);
      cols = omega arith;
      nodes = omega arith;
    }

pub fetch-requires-clause-blocks : goal.fetch-requires-clause-blocks
fetch-requires-clause-blocks g c =
    let v : Wanted = record {
      plan = c.search.inside.plan;
      list = c.search.inside.list;
      keys = map (λ (k : Bor (List ℕ)). k.now) c.search.inside.keys.now;
      addresses = map string_bytes c.search.inside.addresses.now;
    } in
    let count = c.queries.query in
    let shape = c.search.invariant.0.plan.numbers.shape in
    let all = queries_as v c.search.inside.keys.now c.queries_for-query-end.result refl c.queries_for-query-end.ensures in
    let fewer : count < queries_for v = omega (arith, all, c.queries-test.true) in
    let rows = rows_are v count c.keys_each.result c.keys_of-own.result.now c.write_rows.new.out c.write_rows.ensures.rows
    c.keys_of-own.ensures.own c.keys_each.ensures.is in
    let within = c.write_rows.ensures.within shape.some_rows in
    are_blocks v count c.write_rows.new.out c.search.invariant.0.plan fewer rows within

pub returns-in_err-session-clause-found : goal.returns-in_err-session-clause-found
returns-in_err-session-clause-found g c =
    let v : Wanted = record {
      plan = c.search.inside.plan;
      list = c.search.inside.list;
      keys = map (λ (k : Bor (List ℕ)). k.now) c.search.inside.keys.now;
      addresses = map string_bytes c.search.inside.addresses.now;
    } in
    let count = c.queries.query in
    let shape = c.search.invariant.0.plan.numbers.shape in
    let all = queries_as v c.search.inside.keys.now c.queries_for-query-end.result refl c.queries_for-query-end.ensures in
    let fewer : count < queries_for v = omega (arith, all, c.queries-test.true) in
    let rows = rows_are v count c.keys_each.result c.keys_of-own.result.now c.write_rows.new.out c.write_rows.ensures.rows
    c.keys_of-own.ensures.own c.keys_each.ensures.is in
    let within = c.write_rows.ensures.within shape.some_rows in
    let w = c.args.search in
    let some = subst (λ (u : Wanted). 1 ≤ keys_each u.plan.s) c.search.view_is (some_each v.plan.s shape.some_bytes shape.few_bytes) in
    let more = subst (λ (u : Wanted). count < queries_for u) c.search.view_is fewer in
    let low = low_as v w count c.write_rows.new.out c.search.view_is rows within in
    let old = g.P.Ports.world c.args.ports.now in
    let mid = g.P.Ports.world c.queries.ports in
    let new = g.P.Ports.world c.fetch.new.ports in
    let so_far = c.queries.invariant.so_far in
    let fault = err_from_is_err_and c.from_residual.result c.from_residual.ensures.1 in
    let failed = asked_as (λ (q : Request). Fetches q (Err c.in_err-session.field-0.0) mid new) v w count c.write_rows.new.out
    c.search.view_is rows c.in_err-session.ensures.fetched in
    subst (λ (a : Result Come FetchFault). FindsKeys w a (old.at COINS) old new) (sym (fault.1 ∙ ap Err fault.2))
    (ends_by_fault w count c.queries.answers c.queries.unlisted (old.at COINS) old mid new so_far some more low c.in_err-session.field-0.0
    (subst (λ (u : Wanted). IsPlan u.plan) c.search.view_is c.search.invariant.0.plan) failed)

pub returns-in_err-session-clause-others : goal.returns-in_err-session-clause-others
returns-in_err-session-clause-others g c =
    links_more c.args.search.plan.n (g.P.Ports.world c.args.ports.now) (g.P.Ports.world c.queries.ports) (g.P.Ports.world c.fetch.new.ports)
    c.queries.invariant.others
    (subst (λ (u : Wanted). TouchesLinks u.plan.n (g.P.Ports.world c.queries.ports) (g.P.Ports.world c.fetch.new.ports)) c.search.view_is
    c.fetch.ensures.others)

pub tell-requires-clause-block : goal.tell-requires-clause-block
tell-requires-clause-block g c =
    let fetched = c.in_ok-session.ensures.fetched in
    let size : length c.write_rows.new.out ≡ length c.keys_of-own.result.now = ap length c.write_rows.ensures.rows ∙ length-map c.keys_of-own.result.now _ in
    subst (λ (n : ℕ). IfSome (only_block c.in_ok-session.verdict) (λ block. length block ≡ n * c.search.inside.plan.s)) size
    (width_listed c.search.inside.plan (length c.write_rows.new.out) (session_number fetched.coins) c.in_ok-session.session c.in_ok-session.verdict
    c.search.invariant.0.shamir fetched.asked.asked.params fetched.judged)

pub tell-requires-clause-room : goal.tell-requires-clause-room
tell-requires-clause-room g c =
    let v : Wanted = record {
      plan = c.search.inside.plan;
      list = c.search.inside.list;
      keys = map (λ (k : Bor (List ℕ)). k.now) c.search.inside.keys.now;
      addresses = map string_bytes c.search.inside.addresses.now;
    } in
    let count = c.queries.query in
    let shape = c.search.invariant.0.plan.numbers.shape in
    let all = queries_as v c.search.inside.keys.now c.queries_for-query-end.result refl c.queries_for-query-end.ensures in
    let fewer : count < queries_for v = omega (arith, all, c.queries-test.true) in
    let rows = rows_are v count c.keys_each.result c.keys_of-own.result.now c.write_rows.new.out c.write_rows.ensures.rows
    c.keys_of-own.ensures.own c.keys_each.ensures.is in
    let within = c.write_rows.ensures.within shape.some_rows in
    let w = c.args.search in
    let some = subst (λ (u : Wanted). 1 ≤ keys_each u.plan.s) c.search.view_is (some_each v.plan.s shape.some_bytes shape.few_bytes) in
    let more = subst (λ (u : Wanted). count < queries_for u) c.search.view_is fewer in
    let low = low_as v w count c.write_rows.new.out c.search.view_is rows within in
    let old = g.P.Ports.world c.args.ports.now in
    let mid = g.P.Ports.world c.queries.ports in
    let new = g.P.Ports.world c.fetch.new.ports in
    let so_far = c.queries.invariant.so_far in
    let own = map (λ (k : Bor (List ℕ)). k.now) c.keys_of-own.result.now in
    let keys = keys_are v count c.keys_each.result own c.keys_of-own.ensures.own c.keys_each.ensures.is in
    let size : length own ≡ length c.keys_of-own.result.now = length-map c.keys_of-own.result.now (λ (k : Bor (List ℕ)). k.now) in
    let next = next_room w count c.queries.answers c.queries.unlisted (old.at COINS) old mid new so_far some more low in
    let same : length own ≡ length (keys_of w count) = ap length keys ∙ ap (λ (u : Wanted). length (keys_of u count)) c.search.view_is in
    omega (arith, next, same, size)

pub queries-preserved : goal.queries-preserved
queries-preserved g c =
    let v : Wanted = record {
      plan = c.search.inside.plan;
      list = c.search.inside.list;
      keys = map (λ (k : Bor (List ℕ)). k.now) c.search.inside.keys.now;
      addresses = map string_bytes c.search.inside.addresses.now;
    } in
    let count = c.queries.query in
    let shape = c.search.invariant.0.plan.numbers.shape in
    let all = queries_as v c.search.inside.keys.now c.queries_for-query-end.result refl c.queries_for-query-end.ensures in
    let fewer : count < queries_for v = omega (arith, all, c.queries-test.true) in
    let rows = rows_are v count c.keys_each.result c.keys_of-own.result.now c.write_rows.new.out c.write_rows.ensures.rows
    c.keys_of-own.ensures.own c.keys_each.ensures.is in
    let within = c.write_rows.ensures.within shape.some_rows in
    let w = c.args.search in
    let some = subst (λ (u : Wanted). 1 ≤ keys_each u.plan.s) c.search.view_is (some_each v.plan.s shape.some_bytes shape.few_bytes) in
    let more = subst (λ (u : Wanted). count < queries_for u) c.search.view_is fewer in
    let low = low_as v w count c.write_rows.new.out c.search.view_is rows within in
    let old = g.P.Ports.world c.args.ports.now in
    let mid = g.P.Ports.world c.queries.ports in
    let new = g.P.Ports.world c.fetch.new.ports in
    let so_far = c.queries.invariant.so_far in
    let own = map (λ (k : Bor (List ℕ)). k.now) c.keys_of-own.result.now in
    let keys = keys_are v count c.keys_each.result own c.keys_of-own.ensures.own c.keys_each.ensures.is in
    let size : length own ≡ length c.keys_of-own.result.now = length-map c.keys_of-own.result.now (λ (k : Bor (List ℕ)). k.now) in
    let concludes = asked_as (λ (q : Request). Concludes q c.in_ok-session.session c.in_ok-session.verdict mid new) v w count c.write_rows.new.out
    c.search.view_is rows c.in_ok-session.ensures.fetched in
    let tells = tells_as v w count (only_block c.in_ok-session.verdict) own c.queries.answers c.tell.new.answers c.search.view_is keys c.tell.ensures in
    record {
      so_far = queries_more w count c.queries.answers c.queries.unlisted (old.at COINS) old mid new so_far some more low
          c.in_ok-session.session c.in_ok-session.verdict c.tell.new.answers c.keep_unlisted.new.unlisted concludes tells c.keep_unlisted.ensures;
      others = links_more w.plan.n old mid new c.queries.invariant.others
          (subst (λ (u : Wanted). TouchesLinks u.plan.n mid new) c.search.view_is c.fetch.ensures.others);
      cols = omega (arith, c.queries.invariant.cols, c.fetch.ensures.least);
      nodes = omega (arith, c.queries.invariant.nodes, c.fetch.ensures.least_nodes);
    }

pub returns-clause-found : goal.returns-clause-found
returns-clause-found g c =
    let v : Wanted = record {
      plan = c.search.inside.plan;
      list = c.search.inside.list;
      keys = map (λ (k : Bor (List ℕ)). k.now) c.search.inside.keys.now;
      addresses = map string_bytes c.search.inside.addresses.now;
    } in
    let count = c.queries.query in
    let w = c.args.search in
    let shape = c.search.invariant.0.plan.numbers.shape in
    let all = queries_as v c.search.inside.keys.now c.queries_for-query-end.result refl c.queries_for-query-end.ensures in
    let whole : count ≡ queries_for v = omega (arith, all, c.queries-test.false, c.queries.auto.query-end) in
    let some = subst (λ (u : Wanted). 1 ≤ keys_each u.plan.s) c.search.view_is (some_each v.plan.s shape.some_bytes shape.few_bytes) in
    found_all w count c.queries.answers c.queries.unlisted _ _ _ c.queries.invariant.so_far some
    (subst (λ (u : Wanted). count ≡ queries_for u) c.search.view_is whole)
