use Rattle.std.proofs.Common.{◌≡◌, ◌-◌, vec_len}
use Rattle.std.specs.Cmp.Lexicographic.{slice_cmp}
use Rattle.std.specs.List.Sorted.{IsStrictlySortedBy}
use Rattle.std.specs.Ordering.{nat_cmp}
use Rattle.block_decoder.specs.Gains.{Gains}
use Rattle.block_decoder.specs.Numbered.{ContinuesBelow}
use Rattle.program_tests.specs.Search.{sought}
use Rattle.program_tests.proofs.plain_blocks.Search.+extend.Given as goal

abbrev pub decreases-extend : goal.decreases-extend
decreases-extend l = l.self.now.width - vec_len l.numbers.now

abbrev pub invariant-loop-number : goal.invariant-loop-number
invariant-loop-number l = record {
  kept : l.numbers.items ≡ l.initial.numbers.items;
  length_kept : vec_len l.numbers ≡ vec_len l.initial.numbers;
  ascending : IsStrictlySortedBy (slice_cmp nat_cmp) l.listing;
  gains : Gains (ContinuesBelow l.number (sought l.self) l.initial.numbers.items) l.initial.listing l.listing;
}
