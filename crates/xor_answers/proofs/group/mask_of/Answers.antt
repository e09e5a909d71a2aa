use Rattle.std.proofs.Common.{◌≡◌, ◌*◌, Bool, if◌then◌else◌, sym, ap, ◌∙◌}
use Rattle.std.proofs.lemmas.List.{get_or-replicate}
use Rattle.chor_xor.specs.Bitmap.{bit_of}
use Rattle.xor_answers.proofs.group.mask_of.Goals.{then-is_set, else-is_set}
use Rattle.xor_answers.proofs.group.mask_of.Goals as goal

pub returns-clause-each : goal.returns-clause-each
returns-clause-each c = λ k l.
    let bit = λ (set : Bool). 255 * (if set then 1 else 0) in
    let mask : c.if-is_set.result ≡ 255 * bit_of c.args.bitmap.now c.args.j =
    elim c.if-is_set.branch [
      | then-is_set w ↦ w.result-is ∙ sym (ap (λ b. 255 * b) c.is_set.ensures ∙ ap bit w.if-is_set.true)
      | else-is_set w ↦ w.result-is ∙ sym (ap (λ b. 255 * b) c.is_set.ensures ∙ ap bit w.if-is_set.false)
    ] in
    get_or-replicate 32 k c.if-is_set.result 0 l ∙ mask
