use Rattle.std.specs.List.Sorted.{IsStrictlySortedBy}
use Rattle.block_decoder.proofs.listing.Listing.of_one.Goals as goal

pub invariant_of-result : goal.invariant_of-result
unfolding IsStrictlySortedBy
invariant_of-result c = rw c.in_ok-blocks.ensures.items (tt, tt)
