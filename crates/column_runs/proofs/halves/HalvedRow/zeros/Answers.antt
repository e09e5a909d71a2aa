use Rattle.std.proofs.Common.{◌≡◌, length, ◌∙◌, sym, arith}
use Rattle.column_runs.proofs.Together.{length-together}
use Rattle.column_runs.proofs.halves.HalvedRow.zeros.Goals as goal

pub returns : goal.returns
returns c =
    let low : length c.in_ok-low.low.items ≡ c.args.count = let size = c.in_ok-low.low.ok.0 in let made = c.in_ok-low.ensures.len in omega (arith, size, made) in
    let high : length c.in_ok-high.high.items ≡ c.args.count = let size = c.in_ok-high.high.ok.0 in let made = c.in_ok-high.ensures.len in omega (arith, size, made) in
    length-together c.in_ok-low.low.items c.in_ok-high.high.items (low ∙ sym high) ∙ low
