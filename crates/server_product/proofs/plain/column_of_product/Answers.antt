use Rattle.std.proofs.Common.{◌≡◌, ◌∙◌, refl, ap, arith, length, slice_index}
use Rattle.gf256.specs.Field.{◌⊕◌, ◌⊗◌}
use Rattle.gf256.specs.Sums.{sum_to}
use Rattle.gf256.specs.Product.{product_at}
use Rattle.server_product.specs.Runs.{term}
use Rattle.server_product.proofs.RunSums.{term-next}
use Rattle.server_product.proofs.plain.column_of_product.Goals as goal

pub loop-j-init : goal.loop-j-init
unfolding sum_to
loop-j-init c = refl

pub loop-j-preserved : goal.loop-j-preserved
loop-j-preserved c =
    term-next c.args.q.now c.args.matrix.now.rows c.args.column c.loop-j.j c.loop-j.sum c.add-sum.result c.loop-j.invariant
    (c.add-sum.ensures ∙ ap (◌⊕◌ c.loop-j.sum) (c.mul.ensures ∙ ap (λ row. slice_index c.args.q.now c.loop-j.j ⊗ slice_index row c.args.column) c.row.ensures.is))

pub returns : goal.returns
unfolding product_at term
returns c =
    let end : c.loop-j.j ≡ length c.args.matrix.now.rows = omega (arith, c.rows-j-end.ensures.is) in
    c.loop-j.invariant ∙ ap (sum_to (term c.args.q.now c.args.matrix.now.rows c.args.column)) end
