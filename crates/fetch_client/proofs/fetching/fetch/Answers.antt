use Rattle.std.proofs.Common.{List, Option, false, map, string_bytes}
use Rattle.std.proofs.lemmas.Result.{IfOk-from_err, err_from_is_err_and}
use Rattle.wire_frames.specs.Session.{Transcript}
use Rattle.block_decoder.specs.Report.{Agreement}
use Rattle.block_decoder.specs.declared.verdict.Verdict.{Verdict}
use Rattle.query_rounds.specs.Request.{request}
use Rattle.fetch_client.specs.Fetched.{Concludes, ConcludesWith}
use Rattle.fetch_client.proofs.Counts.{counted_alike, failed_alike}
use Rattle.fetch_client.proofs.fetching.fetch.Goals as goal

pub fetch_with-requires : goal.fetch_with-requires
fetch_with-requires g c = c.requires

pub returns-in_err-session-clause-fetched : goal.returns-in_err-session-clause-fetched
returns-in_err-session-clause-fetched g c =
    let fault = err_from_is_err_and c.from_residual.result c.from_residual.ensures.1 in
    let r = request c.args.plan.now c.args.blocks.now (map string_bytes c.args.addresses.now) in
    failed_alike (ConcludesWith false r) (λ (both : Transcript × Verdict). Concludes r both.0 both.1) r _ _
    c.from_residual.result fault.0 _ fault.1 fault.2 c.in_err-session.ensures.fetched.fetched

pub returns-in_err-session-clause-cols : goal.returns-in_err-session-clause-cols
returns-in_err-session-clause-cols g c =
    let fault = err_from_is_err_and c.from_residual.result c.from_residual.ensures.1 in
    counted_alike (λ (found : Transcript × Verdict × Option (List Agreement)). found.0) (λ (both : Transcript × Verdict). both.0) _ _ _ _
    c.from_residual.result fault.0 _ fault.1 fault.2 c.in_err-session.ensures.counted.cols

pub returns-in_err-session-clause-nodes : goal.returns-in_err-session-clause-nodes
returns-in_err-session-clause-nodes g c =
    let fault = err_from_is_err_and c.from_residual.result c.from_residual.ensures.1 in
    counted_alike (λ (found : Transcript × Verdict × Option (List Agreement)). found.0) (λ (both : Transcript × Verdict). both.0) _ _ _ _
    c.from_residual.result fault.0 _ fault.1 fault.2 c.in_err-session.ensures.counted.nodes

pub returns-in_err-session-clause-others : goal.returns-in_err-session-clause-others
returns-in_err-session-clause-others g c = c.in_err-session.ensures.fetched.others

pub returns-in_err-session-clause-least : goal.returns-in_err-session-clause-least
returns-in_err-session-clause-least g c = c.in_err-session.ensures.counted.least

pub returns-in_err-session-clause-least_nodes : goal.returns-in_err-session-clause-least_nodes
returns-in_err-session-clause-least_nodes g c = c.in_err-session.ensures.counted.least_nodes

pub returns-in_err-session-clause-listed : goal.returns-in_err-session-clause-listed
returns-in_err-session-clause-listed g c = λ one. IfOk-from_err c.from_residual.result _ c.from_residual.ensures.0

pub returns-in_err-session-clause-xor : goal.returns-in_err-session-clause-xor
returns-in_err-session-clause-xor g c = c.in_err-session.ensures.counted.xor

pub returns-clause-fetched : goal.returns-clause-fetched
returns-clause-fetched g c = c.in_ok-session.ensures.fetched.fetched.concludes

pub returns-clause-others : goal.returns-clause-others
returns-clause-others g c = c.in_ok-session.ensures.fetched.others

pub returns-clause-cols : goal.returns-clause-cols
returns-clause-cols g c = c.in_ok-session.ensures.counted.cols

pub returns-clause-nodes : goal.returns-clause-nodes
returns-clause-nodes g c = c.in_ok-session.ensures.counted.nodes

pub returns-clause-least : goal.returns-clause-least
returns-clause-least g c = c.in_ok-session.ensures.counted.least

pub returns-clause-least_nodes : goal.returns-clause-least_nodes
returns-clause-least_nodes g c = c.in_ok-session.ensures.counted.least_nodes

pub returns-clause-listed : goal.returns-clause-listed
returns-clause-listed g c = c.in_ok-session.ensures.counted.listed

pub returns-clause-xor : goal.returns-clause-xor
returns-clause-xor g c = c.in_ok-session.ensures.counted.xor

pub returns-clause-several : goal.returns-clause-several
returns-clause-several g c = c.in_ok-session.ensures.counted.several

pub returns-in_err-session-clause-several : goal.returns-in_err-session-clause-several
returns-in_err-session-clause-several g c = λ one. IfOk-from_err c.from_residual.result _ c.from_residual.ensures.0
