use Rattle.std.proofs.Common.{rules}
use Rattle.key_table.specs.Digest.{number_of}
use Rattle.key_table.proofs.digest.number_of.Goals as goal

pub returns : goal.returns
unfolding number_of
returns c = search rules
