use Rattle.block_decoder.proofs.FewLists.{lists-le}
use Rattle.pir_tool.proofs.verdict_laws.lists_are_few.Goals as goal

pub returns : goal.returns
returns c = lists-le c.args.k c.args.t c.args.h c.requires.redundant c.requires.agreement c.requires.strong
