use Rattle.std.proofs.Common.{take}
use Rattle.std.specs.Cmp.Lexicographic.{slice_cmp}
use Rattle.std.specs.List.Sorted.{IsStrictlySortedBy}
use Rattle.std.specs.Ordering.{nat_cmp}
use Rattle.block_decoder.specs.Report.{HasBlocks}
use Rattle.block_decoder.proofs.agreements.Report.to_listing.Given as goal

-- the blocks of the agreements so far
abbrev pub invariant-loop-agreement : goal.invariant-loop-agreement
invariant-loop-agreement l = record {
  ascending : IsStrictlySortedBy (slice_cmp nat_cmp) l.listing;
  blocks : HasBlocks l.listing (take l.agreement-index l.agreement-items);
}
