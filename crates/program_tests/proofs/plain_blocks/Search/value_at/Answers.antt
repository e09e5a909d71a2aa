use Rattle.std.proofs.Common.{◌+◌, take, ap, ◌∙◌, arith}
use Rattle.gf256.specs.Polynomial.{val}
use Rattle.block_decoder.specs.Numbered.{numbered}
use Rattle.block_decoder.proofs.Numbered.{take-bytes_low_first}
use Rattle.program_tests.proofs.plain_blocks.Search.value_at.Goals as goal

pub returns : goal.returns
unfolding numbered
returns c =
    let t = c.args.self.now.degree in
    c.value.ensures
    ∙ ap (λ p. val p c.args.at) (ap (take (t + 1)) c.to_le_bytes-bytes.ensures ∙ take-bytes_low_first 0 (t + 1) 8 c.args.number (omega (arith, c.args.self.now.small)))
