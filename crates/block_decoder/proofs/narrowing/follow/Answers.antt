use Rattle.std.proofs.Common.{get_or}
use Rattle.std.proofs.lemmas.List.{take_more_set}
use Rattle.block_decoder.proofs.narrowing.follow.Goals as goal

pub returns-clause-block : goal.returns-clause-block
returns-clause-block c = take_more_set c.args.block.now c.args.column (get_or c.args.polynomial.now 0 0) c.requires.room
