use Rattle.std.proofs.Common.{◌∙◌, sym, ap, map, string_bytes}
use Rattle.wire_frames.specs.declared.session.SessionParams.{SessionParams}
use Rattle.std.proofs.lemmas.Result.{err_from_is_err_and}
use Rattle.query_rounds.specs.Request.{request}
use Rattle.fetch_client.proofs.Counts.{counts_judged, counts_unjudged, is_judged, none_counted, not_gathered, not_judged}
use Rattle.fetch_client.proofs.fetching.fetch_with.Goals as goal

pub gather-requires : goal.gather-requires
gather-requires g c = c.requires

pub judge_with-requires : goal.judge_with-requires
judge_with-requires g c =
    let params = c.in_ok-all.ensures.gathered.asked.asked.params in
    record { all = c.in_ok-all.ensures.gathered.asked.asked.whole ∙ sym (ap (λ (p : SessionParams). p.n) params) }

pub returns-in_err-all : goal.returns-in_err-all
returns-in_err-all g c =
    let fault = err_from_is_err_and c.from_residual.result c.from_residual.ensures.1 in
    let f = c.args.inputs.now in
    let r = request f.plan.now f.blocks.now (map string_bytes f.addresses.now) in
    record {
      fetched = not_gathered f.report r _ _ c.from_residual.result fault.0 _ fault.1 fault.2 c.in_err-all.ensures.gathered c.in_err-all.ensures.others;
      counted = none_counted f.plan.now f.blocks.now c.from_residual.result fault.0 c.args.cols.now c.args.nodes.now fault.1;
    }

pub returns-in_err-verdict : goal.returns-in_err-verdict
returns-in_err-verdict g c =
    let failed = c.from_residual-in_err-verdict in
    let fault = err_from_is_err_and failed.result failed.ensures.1 in
    let all = c.in_ok-all.ensures in
    let f = c.args.inputs.now in
    let r = request f.plan.now f.blocks.now (map string_bytes f.addresses.now) in
    let gathered = c.in_ok-all.all in
    record {
      fetched = not_judged f.report r _ _ gathered.queries.coins gathered.session all.gathered.asked failed.result fault.0 fault.1 fault.2 all.others;
      counted = counts_unjudged f.report r _ _ gathered.queries.coins gathered.session all.gathered.asked _ _ _ _ _
          failed.result fault.0 fault.1 fault.2 c.in_err-verdict.ensures;
    }

pub returns : goal.returns
returns g c =
    let all = c.in_ok-all.ensures in
    let f = c.args.inputs.now in
    let r = request f.plan.now f.blocks.now (map string_bytes f.addresses.now) in
    let gathered = c.in_ok-all.all in
    let judged = c.in_ok-verdict in
    record {
      fetched = is_judged f.report r _ _ gathered.queries.coins gathered.session all.gathered.asked judged.verdict judged.report _ _ _ _
          c.requires.plan c.requires.blocks c.params.ensures.range c.record_count.ensures.fits all.others judged.ensures;
      counted = counts_judged f.report r _ _ gathered.queries.coins gathered.session all.gathered.asked _ _ _ _
          judged.verdict judged.report judged.ensures;
    }
