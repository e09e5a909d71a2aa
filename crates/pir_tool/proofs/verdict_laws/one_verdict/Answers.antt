use Rattle.block_decoder.proofs.OneVerdict.{one_verdict as no_other}
use Rattle.pir_tool.proofs.verdict_laws.one_verdict.Goals as goal

pub returns : goal.returns
returns c = λ one other p q. no_other c.args.session.now one other c.params.ensures.range p q
