use Rattle.std.proofs.Common.{◌≡◌, ◌∙◌, ◌+◌, ◌*◌, length, slice_index, ap₂, arith}
use Rattle.gf256.specs.Sums.{sum_to}
use Rattle.chor_xor.proofs.Shares.{pieces-next}
use Rattle.chor_xor.proofs.bitmap.sum_pieces.Goals as goal

pub loop-i-init : goal.loop-i-init
unfolding sum_to
loop-i-init c = λ k l. c.clear.ensures k

pub loop-i-preserved : goal.loop-i-preserved
loop-i-preserved c = λ k l.
    pieces-next c.args.coins.now c.loop-i.i _ k _ _ l (c.loop-i.invariant k l) (c.add_row.ensures k)

pub returns : goal.returns
returns c = λ k l.
    let size : length c.clear.new.row ≡ length c.args.out.now = omega arith in
    let end : c.loop-i.i ≡ c.args.count = omega arith in
    c.loop-i.invariant k (omega (arith, l, size))
    ∙ ap₂ (λ s n. sum_to (λ i. slice_index c.args.coins.now (i * s + k)) n) size end
