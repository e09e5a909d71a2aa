use Rattle.key_table.proofs.Shaping.{width_is}
use Rattle.key_table.proofs.entries.SortedEntries.width_of.Goals as goal

pub returns : goal.returns
returns c = width_is c.args.self.now c.args.rows c.fullest.result c.width_with.result c.fullest.ensures.fullest c.width_with.ensures
