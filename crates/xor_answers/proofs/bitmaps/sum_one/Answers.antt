use Rattle.std.proofs.Common.{◌∙◌, ap}
use Rattle.gf256.specs.Field.{◌⊕◌}
use Rattle.gf256.specs.Sums.{run_sum}
use Rattle.gf256.proofs.Xor.{zero_add}
use Rattle.chor_xor.specs.Chosen.{given}
use Rattle.xor_answers.proofs.bitmaps.sum_one.Goals as goal

pub returns : goal.returns
returns c = λ k.
    c.add_chosen_rows.ensures k
    ∙ ap (λ s. s ⊕ run_sum (given c.args.bitmap.now c.args.matrix.now.rows k) c.args.from c.args.to) (c.clear.ensures k) ∙ zero_add _
