use Rattle.block_decoder.proofs.OneReport.{one_report as no_other}
use Rattle.pir_tool.proofs.verdict_laws.one_report.Goals as goal

pub returns : goal.returns
returns c = λ one other p q. no_other c.args.session.now c.args.verdict.now c.params.ensures.range.scheme one other p q
