use Rattle.std.proofs.Common.{◌∙◌, ap, slice_index}
use Rattle.gf256.specs.Field.{◌⊕◌, ◌⊗◌}
use Rattle.server_product.specs.Runs.{term}
use Rattle.server_product.proofs.rows.add_term.Goals as goal

pub returns : goal.returns
unfolding term
returns c = λ k.
    c.mul_add_row.ensures k
    ∙ ap (λ row. slice_index c.args.sums.now k ⊕ slice_index c.args.q.now c.args.j ⊗ slice_index row k) c.row.ensures.is
