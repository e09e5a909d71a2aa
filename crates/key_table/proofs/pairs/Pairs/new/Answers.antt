use Rattle.std.proofs.Common.{refl}
use Rattle.key_table.specs.Held.{pairs_of}
use Rattle.key_table.proofs.pairs.Pairs.new.Goals as goal

pub returns : goal.returns
unfolding pairs_of
returns c = rw (c.new.ensures.items, c.new-2.ensures.items) refl
