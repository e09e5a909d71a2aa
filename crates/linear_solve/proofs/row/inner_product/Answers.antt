use Rattle.std.proofs.Common.{◌≡◌, ap, ap₂, sym, ◌∙◌, arith, length}
use Rattle.gf256.specs.Field.{◌⊕◌}
use Rattle.linear_solve.specs.Kernel.{component, inner}
use Rattle.linear_solve.proofs.InnerProducts.{inner-next, inner-none}
use Rattle.linear_solve.proofs.row.inner_product.Goals as goal

pub loop-k-init : goal.loop-k-init
loop-k-init c = sym (inner-none (component c.args.row.now) c.args.v.now)

pub loop-k-preserved : goal.loop-k-preserved
unfolding component
loop-k-preserved c =
    c.add-sum.ensures ∙ ap₂ ◌⊕◌ c.loop-k.invariant c.mul.ensures ∙ sym (inner-next (component c.args.row.now) c.args.v.now c.loop-k.k)

pub returns : goal.returns
returns c = let k : c.loop-k.k ≡ length c.args.row.now = omega arith in c.loop-k.invariant ∙ ap (inner (component c.args.row.now) c.args.v.now) k
