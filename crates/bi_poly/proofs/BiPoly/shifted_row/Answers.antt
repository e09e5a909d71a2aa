use Rattle.std.proofs.Common.{◌++◌, length, ap, ap₂, ◌∙◌}
use Rattle.gf256.specs.Field.{◌⊕◌}
use Rattle.gf256.proofs.Xor.{zero_add}
use Rattle.uni_poly.specs.Taylor.{taylor}
use Rattle.bi_poly.specs.Rows.{column}
use Rattle.bi_poly.proofs.Shift.{derivatives-are, filled}
use Rattle.bi_poly.proofs.BiPoly.shifted_row.Goals as goal

pub returns : goal.returns
returns c =
    let q = c.args.self.now in
    let sums = c.add_derivatives.new.sums in
    c.in_ok-extend_from_slice.ensures.items
    ∙ ap₂ ◌++◌ (filled c.resize.new.self.items _ c.args.j _ c.in_ok-made.ensures.items c.in_ok-made.ensures.len c.in_ok-resize.ensures.items)
    (derivatives-are q sums (length c.args.sums.now) c.args.gamma c.args.j (c.add_derivatives.auto.sums ∙ c.clear.auto.row)
    (λ i. c.add_derivatives.ensures i ∙ ap (λ x. x ⊕ taylor (column q i) c.args.gamma c.args.j) (c.clear.ensures i) ∙ zero_add _))
