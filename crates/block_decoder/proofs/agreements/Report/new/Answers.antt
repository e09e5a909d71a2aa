use Rattle.std.proofs.Common.{sym, subst}
use Rattle.std.specs.List.Sorted.{IsStrictlySortedBy}
use Rattle.block_decoder.specs.Report.{agreement_cmp}
use Rattle.block_decoder.proofs.Members.{sorted_nil}
use Rattle.block_decoder.proofs.Reported.{agreement_cmp_total}
use Rattle.block_decoder.proofs.agreements.Report.new.Goals as goal

pub invariant_of-result : goal.invariant_of-result
invariant_of-result c = subst (IsStrictlySortedBy agreement_cmp) (sym c.new.ensures.items) (sorted_nil agreement_cmp_total)
