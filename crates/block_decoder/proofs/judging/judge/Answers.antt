use Rattle.std.proofs.lemmas.Result.{IfOk-from_err}
use Rattle.block_decoder.proofs.judging.judge.Goals as goal

pub returns-in_err-verdict-clause-cols : goal.returns-in_err-verdict-clause-cols
returns-in_err-verdict-clause-cols g c = c.in_err-verdict.ensures.cols

pub returns-in_err-verdict-clause-nodes : goal.returns-in_err-verdict-clause-nodes
returns-in_err-verdict-clause-nodes g c = c.in_err-verdict.ensures.nodes

pub returns-in_err-verdict-clause-least : goal.returns-in_err-verdict-clause-least
returns-in_err-verdict-clause-least g c = c.in_err-verdict.ensures.least

pub returns-in_err-verdict-clause-least_nodes : goal.returns-in_err-verdict-clause-least_nodes
returns-in_err-verdict-clause-least_nodes g c = c.in_err-verdict.ensures.least_nodes

pub returns-in_err-verdict-clause-unlisted : goal.returns-in_err-verdict-clause-unlisted
returns-in_err-verdict-clause-unlisted g c = c.in_err-verdict.ensures.unlisted

pub returns-in_err-verdict-clause-xor : goal.returns-in_err-verdict-clause-xor
returns-in_err-verdict-clause-xor g c = c.in_err-verdict.ensures.xor

pub returns-clause-cols : goal.returns-clause-cols
returns-clause-cols g c = c.in_ok-verdict.ensures.cols

pub returns-clause-nodes : goal.returns-clause-nodes
returns-clause-nodes g c = c.in_ok-verdict.ensures.nodes

pub returns-clause-least : goal.returns-clause-least
returns-clause-least g c = c.in_ok-verdict.ensures.least

pub returns-clause-least_nodes : goal.returns-clause-least_nodes
returns-clause-least_nodes g c = c.in_ok-verdict.ensures.least_nodes

pub returns-clause-unlisted : goal.returns-clause-unlisted
returns-clause-unlisted g c = c.in_ok-verdict.ensures.unlisted

pub returns-clause-xor : goal.returns-clause-xor
returns-clause-xor g c = c.in_ok-verdict.ensures.xor

pub returns-clause-verdict : goal.returns-clause-verdict
returns-clause-verdict g c = c.in_ok-verdict.ensures.verdict

pub returns-clause-listed : goal.returns-clause-listed
returns-clause-listed g c = c.in_ok-verdict.ensures.listed

pub returns-clause-few : goal.returns-clause-few
returns-clause-few g c = c.in_ok-verdict.ensures.few

pub judge_with-requires : goal.judge_with-requires
judge_with-requires g c = c.requires

pub returns-in_err-verdict-clause-verdict : goal.returns-in_err-verdict-clause-verdict
returns-in_err-verdict-clause-verdict g c = IfOk-from_err c.from_residual.result _ c.from_residual.ensures.0

pub returns-in_err-verdict-clause-listed : goal.returns-in_err-verdict-clause-listed
returns-in_err-verdict-clause-listed g c = λ _. IfOk-from_err c.from_residual.result _ c.from_residual.ensures.0

pub returns-in_err-verdict-clause-few : goal.returns-in_err-verdict-clause-few
returns-in_err-verdict-clause-few g c = λ _. IfOk-from_err c.from_residual.result _ c.from_residual.ensures.0

pub returns-clause-several : goal.returns-clause-several
returns-clause-several g c = c.in_ok-verdict.ensures.several

pub returns-in_err-verdict-clause-several : goal.returns-in_err-verdict-clause-several
returns-in_err-verdict-clause-several g c = IfOk-from_err c.from_residual.result _ c.from_residual.ensures.0
