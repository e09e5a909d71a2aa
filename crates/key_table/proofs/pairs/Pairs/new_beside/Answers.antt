use Rattle.std.proofs.Common.{[], ap}
use Rattle.key_table.specs.Held.{Held, pairs_of}
use Rattle.key_table.proofs.Gathered.{as_held}
use Rattle.key_table.proofs.pairs.Pairs.new_beside.Goals as goal

pub returns : goal.returns
unfolding pairs_of
returns c = rw (c.new.ensures.items, c.new-2.ensures.items) (ap (λ (h : Held). as_held h.size []) c.self.view_is)
