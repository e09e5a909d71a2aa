use Rattle.std.proofs.Common.{◌≡◌, take}
use Rattle.block_decoder.specs.Agreed.{weight}
use Rattle.block_decoder.specs.Numbered.{all_numbered}
use Rattle.program_tests.proofs.plain_blocks.Search.weight.Given as goal

abbrev pub invariant-loop-place : goal.invariant-loop-place
invariant-loop-place l = l.count ≡ weight (all_numbered l.self.degree l.numbers) (take l.place l.self.answers)
