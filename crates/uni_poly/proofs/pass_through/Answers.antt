use Rattle.std.proofs.Common.{ap, sym, ◌∙◌}
use Rattle.gf256.specs.Field.{◌⊕◌, ◌⊗◌}
use Rattle.gf256.specs.Polynomial.{coef}
use Rattle.uni_poly.proofs.Interpolation.{through, kept}
use Rattle.uni_poly.proofs.pass_through.Goals as goal

pub returns-clause-bytes : goal.returns-clause-bytes
unfolding coef
returns-clause-bytes c = λ e. (c.type_inv.made e).fits

pub returns-clause-through : goal.returns-clause-through
returns-clause-through c =
    let p = c.args.made.now in
    let q = c.args.basis.now in
    through c.add_scaled.new.acc p q c.mul.result c.args.x c.args.y c.inv-inverse.result
    c.add_scaled.ensures c.requires.room c.ranges.x.fits c.ranges.y.fits
    (ap (λ z. z ⊗ c.inv-inverse.result) (sym c.eval-2.ensures) ∙ c.inv-inverse.ensures.product)
    (c.mul.ensures ∙ ap (λ z. z ⊗ c.inv-inverse.result) (c.add-missing.ensures ∙ ap (◌⊕◌ c.args.y) c.eval.ensures))

pub returns-clause-kept : goal.returns-clause-kept
returns-clause-kept c = λ a e. kept c.add_scaled.new.acc c.args.made.now c.args.basis.now c.mul.result a c.add_scaled.ensures c.requires.room e
