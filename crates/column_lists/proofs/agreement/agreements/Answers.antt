use Rattle.std.proofs.Common.{rules}
use Rattle.column_lists.specs.Agreement.{agreements}
use Rattle.column_lists.proofs.agreement.agreements.Goals as goal

pub returns : goal.returns
unfolding agreements
returns c = search rules
