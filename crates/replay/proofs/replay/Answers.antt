use Rattle.std.proofs.Common.{le_refl}
use Rattle.std.proofs.lemmas.Result.{IfOk-from_err, err_from_is_err_and}
use Rattle.wire_frames.specs.Answer.{block_len}
use Rattle.block_decoder.specs.Numbers.{most_columns, most_nodes}
use Rattle.block_decoder.specs.Verdict.{least_coefficients, least_columns}
use Rattle.replay.specs.Replayed.{Judged, Spells}
use Rattle.replay.proofs.Judged.{any_steps, failed_alike, no_step, no_verdict}
use Rattle.replay.proofs.Readings.{counts_least, counts_nothing, counts_of}
use Rattle.replay.proofs.replay.Goals as goal

pub returns-in_err-session-clause-replayed : goal.returns-in_err-session-clause-replayed
returns-in_err-session-clause-replayed g c =
    let fault = err_from_is_err_and c.from_residual.result c.from_residual.ensures.1 in
    failed_alike Spells Judged (g.P.Ports.world c.args.ports.now) (g.P.Ports.world c.read_session.new.ports) c.from_residual.result fault.0 _ fault.1 fault.2 c.in_err-session.ensures.read

pub returns-in_err-session-clause-others : goal.returns-in_err-session-clause-others
returns-in_err-session-clause-others g c = c.in_err-session.ensures.others

pub returns-in_err-session-clause-cols : goal.returns-in_err-session-clause-cols
returns-in_err-session-clause-cols g c = counts_nothing most_columns _ c.args.cols.now

pub returns-in_err-session-clause-nodes : goal.returns-in_err-session-clause-nodes
returns-in_err-session-clause-nodes g c = counts_nothing most_nodes _ c.args.nodes.now

pub returns-in_err-session-clause-unjudged : goal.returns-in_err-session-clause-unjudged
returns-in_err-session-clause-unjudged g c =
    let fault = err_from_is_err_and c.from_residual.result c.from_residual.ensures.1 in
    no_step c.from_residual.result fault.0 c.args.cols.now c.args.nodes.now fault.1

pub returns-in_err-session-clause-least : goal.returns-in_err-session-clause-least
returns-in_err-session-clause-least g c = le_refl c.args.cols.now

pub returns-in_err-session-clause-least_nodes : goal.returns-in_err-session-clause-least_nodes
returns-in_err-session-clause-least_nodes g c = le_refl c.args.nodes.now

pub returns-in_err-session-clause-listed : goal.returns-in_err-session-clause-listed
returns-in_err-session-clause-listed g c = IfOk-from_err c.from_residual.result _ c.from_residual.ensures.0

pub returns-in_err-judge-clause-cols : goal.returns-in_err-judge-clause-cols
returns-in_err-judge-clause-cols g c =
    counts_of most_columns c.in_ok-session.session _ _ _ _ c.in_ok-session.ensures.read c.judge.ensures.cols
    (λ xor. (c.judge.ensures.xor xor).0)

pub returns-clause-cols : goal.returns-clause-cols
returns-clause-cols g c =
    counts_of most_columns c.in_ok-session.session _ _ _ _ c.in_ok-session.ensures.read c.judge.ensures.cols
    (λ xor. (c.judge.ensures.xor xor).0)

pub returns-in_err-judge-clause-nodes : goal.returns-in_err-judge-clause-nodes
returns-in_err-judge-clause-nodes g c =
    counts_of most_nodes c.in_ok-session.session _ _ _ _ c.in_ok-session.ensures.read c.judge.ensures.nodes
    (λ xor. (c.judge.ensures.xor xor).1)

pub returns-clause-nodes : goal.returns-clause-nodes
returns-clause-nodes g c =
    counts_of most_nodes c.in_ok-session.session _ _ _ _ c.in_ok-session.ensures.read c.judge.ensures.nodes
    (λ xor. (c.judge.ensures.xor xor).1)

pub returns-in_err-judge-clause-replayed : goal.returns-in_err-judge-clause-replayed
returns-in_err-judge-clause-replayed g c =
    let fault = err_from_is_err_and c.from_residual-in_err-judge.result c.from_residual-in_err-judge.ensures.1 in
    no_verdict Judged c.in_ok-session.session (g.P.Ports.world c.args.ports.now)
    (g.P.Ports.world c.read_session.new.ports) c.from_residual-in_err-judge.result fault.0 fault.1 fault.2 c.in_ok-session.ensures.read

pub returns-in_err-judge-clause-others : goal.returns-in_err-judge-clause-others
returns-in_err-judge-clause-others g c = c.in_ok-session.ensures.others

pub returns-in_err-judge-clause-unjudged : goal.returns-in_err-judge-clause-unjudged
returns-in_err-judge-clause-unjudged g c =
    let fault = err_from_is_err_and c.from_residual-in_err-judge.result c.from_residual-in_err-judge.ensures.1 in
    any_steps c.from_residual-in_err-judge.result fault.0 c.args.cols.now c.judge.new.cols c.args.nodes.now c.judge.new.nodes fault.1 fault.2

pub returns-in_err-judge-clause-least : goal.returns-in_err-judge-clause-least
returns-in_err-judge-clause-least g c = c.in_err-judge.ensures.least

pub returns-in_err-judge-clause-least_nodes : goal.returns-in_err-judge-clause-least_nodes
returns-in_err-judge-clause-least_nodes g c = c.in_err-judge.ensures.least_nodes

pub returns-in_err-judge-clause-listed : goal.returns-in_err-judge-clause-listed
returns-in_err-judge-clause-listed g c = IfOk-from_err c.from_residual-in_err-judge.result _ c.from_residual-in_err-judge.ensures.0

pub returns-clause-replayed : goal.returns-clause-replayed
returns-clause-replayed g c =
    let reads = c.in_ok-session.ensures.read in
    record { read = reads.read; cell = reads.cell; all = reads.all; is = record { session = c.in_ok-session.session; whole = reads.is; judged = c.in_ok-judge.ensures.verdict } }

pub returns-clause-others : goal.returns-clause-others
returns-clause-others g c = c.in_ok-session.ensures.others

pub returns-clause-unjudged : goal.returns-clause-unjudged
returns-clause-unjudged g c = (record {}, record {})

pub returns-clause-least : goal.returns-clause-least
returns-clause-least g c = c.in_ok-judge.ensures.least

pub returns-clause-least_nodes : goal.returns-clause-least_nodes
returns-clause-least_nodes g c = c.in_ok-judge.ensures.least_nodes

pub returns-clause-listed : goal.returns-clause-listed
returns-clause-listed g c =
    counts_least (λ params. least_columns (block_len params)) c.in_ok-session.session c.in_ok-judge.field-0 _ _ _ _ c.in_ok-session.ensures.read
    c.in_ok-judge.ensures.listed

pub judge-requires : goal.judge-requires
judge-requires g c = record { all = c.in_ok-session.ensures.all }

pub returns-clause-several : goal.returns-clause-several
returns-clause-several g c =
    counts_least (λ params. least_coefficients params.t) c.in_ok-session.session c.in_ok-judge.field-0 _ _ _ _ c.in_ok-session.ensures.read
    c.in_ok-judge.ensures.several

pub returns-in_err-session-clause-several : goal.returns-in_err-session-clause-several
returns-in_err-session-clause-several g c = IfOk-from_err c.from_residual.result _ c.from_residual.ensures.0

pub returns-in_err-judge-clause-several : goal.returns-in_err-judge-clause-several
returns-in_err-judge-clause-several g c = IfOk-from_err c.from_residual-in_err-judge.result _ c.from_residual-in_err-judge.ensures.0
