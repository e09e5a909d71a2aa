use Rattle.std.proofs.Common.{◌∙◌, length, ap}
use Rattle.gf256.specs.Field.{◌⊕◌}
use Rattle.gf256.specs.Sums.{run_sum}
use Rattle.gf256.proofs.Xor.{zero_add}
use Rattle.gf256.proofs.RunSums.{run-all}
use Rattle.chor_xor.specs.Chosen.{given, chosen_at}
use Rattle.chor_xor.proofs.ChosenSums.{chosen-is}
use Rattle.chor_xor.proofs.answer.answer_into.Goals as goal

pub returns : goal.returns
unfolding chosen_at
returns c =
    let bitmap = c.args.bitmap.now in
    let rows = c.args.matrix.now.rows in
    chosen-is c.args.matrix.now bitmap c.add_chosen_rows.new.sum (c.add_chosen_rows.auto.sum ∙ c.clear.auto.row ∙ c.requires.room)
    (λ k.
    c.add_chosen_rows.ensures k ∙ ap (λ s. s ⊕ run_sum (given bitmap rows k) 0 c.rows.result) (c.clear.ensures k) ∙ zero_add _
    ∙ ap (run_sum (given bitmap rows k) 0) c.rows.ensures.is ∙ run-all (given bitmap rows k) (length rows))
