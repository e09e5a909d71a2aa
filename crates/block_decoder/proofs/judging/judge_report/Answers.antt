use Rattle.block_decoder.proofs.judging.judge_report.Goals as goal

pub returns-clause-cols : goal.returns-clause-cols
returns-clause-cols g c = c.judge_with.ensures.cols

pub returns-clause-nodes : goal.returns-clause-nodes
returns-clause-nodes g c = c.judge_with.ensures.nodes

pub returns-clause-least : goal.returns-clause-least
returns-clause-least g c = c.judge_with.ensures.least

pub returns-clause-least_nodes : goal.returns-clause-least_nodes
returns-clause-least_nodes g c = c.judge_with.ensures.least_nodes

pub returns-clause-unlisted : goal.returns-clause-unlisted
returns-clause-unlisted g c = c.judge_with.ensures.unlisted

pub returns-clause-xor : goal.returns-clause-xor
returns-clause-xor g c = c.judge_with.ensures.xor

pub returns-clause-verdict : goal.returns-clause-verdict
returns-clause-verdict g c = c.judge_with.ensures.verdict

pub returns-clause-listed : goal.returns-clause-listed
returns-clause-listed g c = c.judge_with.ensures.listed

pub returns-clause-few : goal.returns-clause-few
returns-clause-few g c = c.judge_with.ensures.few

pub returns-clause-few_agree : goal.returns-clause-few_agree
returns-clause-few_agree g c = c.judge_with.ensures.few_agree

pub judge_with-requires : goal.judge_with-requires
judge_with-requires g c = c.requires

pub returns-clause-several : goal.returns-clause-several
returns-clause-several g c = c.judge_with.ensures.several
