use Rattle.std.proofs.Common.{sym}
use Rattle.list_keys.proofs.Faults.{good_line}
use Rattle.list_keys.proofs.reader.LineReader.give.Goals as goal

pub invariant_of-self : goal.invariant_of-self
invariant_of-self c = (c.self.invariant.0, (good_line _ _ _ (sym c.in_default.ensures)).0)
