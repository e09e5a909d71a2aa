use Rattle.std.proofs.Common.{◌≡◌, length, replicate, sym, ◌∙◌, arith, ext_get_or}
use Rattle.std.proofs.lemmas.List.{length-replicate, get_or-replicate}
use Rattle.key_table.proofs.write.clear.Goals as goal

pub returns : goal.returns
returns c =
    let n = length c.args.out.now in
    let long : length c.loop-b.out ≡ n = c.loop-b.auto.out in
    ext_get_or 0 c.loop-b.out (replicate n 0) (long ∙ sym (length-replicate n 0))
    (λ i lt. c.loop-b.invariant i (omega (arith, lt, long)) ∙ sym (get_or-replicate n i 0 0 (omega (arith, lt, long))))
