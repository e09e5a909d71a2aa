use Rattle.pir_tool.proofs.SomeVerdict.{some_verdict as on_each}
use Rattle.pir_tool.proofs.verdict_laws.some_verdict.Goals as goal

pub returns : goal.returns
returns c = on_each c.args.session.now
