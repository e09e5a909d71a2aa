use Rattle.std.proofs.Common.{rules, ◌∙◌, ◌-◌, length, ap, arith}
use Rattle.chor_xor.specs.Bitmap.{unused_bits}
use Rattle.chor_xor.proofs.Bits.{cleared-by_mask}
use Rattle.chor_xor.proofs.Places.{cleared-last}
use Rattle.chor_xor.proofs.bitmap.clear_unused.Goals as goal

pub returns : goal.returns
returns c =
    let bitmap = c.args.bitmap.now in
    let last = length bitmap - 1 in
    let unused = c.unused_in_last.result in
    cleared-last bitmap c.args.r _ c.requires.some c.requires.size
    (cleared-by_mask c.args.r last unused _ (c.unused_in_last.ensures.is ∙ ap (unused_bits c.args.r) (omega (arith, c.requires.size)))
    (omega (arith, c.unused_in_last.ensures.few)) (search rules))
