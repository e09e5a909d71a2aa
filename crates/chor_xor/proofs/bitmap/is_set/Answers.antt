use Rattle.std.proofs.Common.{◌-◌, ◌/◌, ◌%◌, ◌==◌, if◌then◌else◌, get_or, sym, ap, ◌∙◌}
use Rattle.std.specs.Int.{bit_at}
use Rattle.std.proofs.lemmas.Nat.Bits.{shr_and_one, bit_at-lt}
use Rattle.chor_xor.specs.Bitmap.{bit_of}
use Rattle.chor_xor.proofs.Bits.{bit_tested}
use Rattle.chor_xor.proofs.bitmap.is_set.Goals as goal

pub returns : goal.returns
unfolding bit_of
returns c =
    let byte = get_or c.args.bitmap.now (c.args.j / 8) 0 in
    let place = 7 - c.args.j % 8 in
    bit_tested (bit_at byte place) (bit_at-lt byte place)
    ∙ ap (λ x. if x == 1 then 1 else 0) (sym (shr_and_one byte place))
