use Rattle.std.proofs.Common.{rules}
use Rattle.std.proofs.lemmas.Fn.{always_returns_same}
use Rattle.key_table.specs.Numbered.{comes_numbered}
use Rattle.key_table.proofs.Numbered.{numbered_rank}
use Rattle.key_table.proofs.entries.sort_places.Goals as goal

pub returns-clause-sorted : goal.returns-clause-sorted
returns-clause-sorted c =
    c.sort_unstable_by.ensures.sorted (comes_numbered c.args.pairs.now.pairs) (numbered_rank c.args.pairs.now.pairs)
    (always_returns_same _ _ _ (λ a r q k. search rules))
