use Rattle.std.proofs.Common.{◌≡◌, ◌<◌, ℕ, get_or}
use Rattle.gf256.specs.Polynomial.{val}
use Rattle.block_decoder.specs.Numbered.{numbered}
use Rattle.program_tests.proofs.plain_blocks.Search.holds.Given as goal

abbrev pub invariant-loop-column : goal.invariant-loop-column
invariant-loop-column l = (k : ℕ) → k < l.column → val (numbered l.self.degree (get_or l.numbers k 0)) l.answer.index ≡ get_or l.answer.payload k 0
