use Rattle.std.proofs.Common.{subst}
use Rattle.std.specs.List.Sorted.{IsStrictlySortedBy}
use Rattle.std.specs.Cmp.Lexicographic.{slice_cmp}
use Rattle.std.specs.Ordering.{nat_cmp}
use Rattle.block_decoder.proofs.listing.Listing.get.Goals as goal

pub returns-in-Some-clause-ascending : goal.returns-in-Some-clause-ascending
returns-in-Some-clause-ascending c = subst (IsStrictlySortedBy (slice_cmp nat_cmp)) c.self.view_is c.self.invariant

pub returns-in-None-clause-ascending : goal.returns-in-None-clause-ascending
returns-in-None-clause-ascending c = subst (IsStrictlySortedBy (slice_cmp nat_cmp)) c.self.view_is c.self.invariant
