use Rattle.std.proofs.Common.{◌≡◌, [], length, get_or, sym, ap₂, ◌∙◌, arith}
use Rattle.std.proofs.lemmas.List.{get_or_default}
use Rattle.gf256.specs.Field.{◌⊕◌, ◌⊗◌}
use Rattle.column_runs.proofs.MadeSums.{given-none, given-more, given-all}
use Rattle.column_runs.proofs.sums.byte_at.Goals as goal

pub loop-i-init : goal.loop-i-init
loop-i-init c = sym (given-none c.args.first.now c.args.differences.now c.args.factors.now c.args.c)

pub loop-i-preserved : goal.loop-i-preserved
loop-i-preserved c =
    let i = c.loop-i.i in
    let ds = c.args.differences.now in
    let factors = c.args.factors.now in
    let factor = c.index-factors-i.is ∙ get_or_default factors i _ 0 c.loop-i-test.true in
    let row = c.index-differences-i.is ∙ get_or_default ds i _ [] (omega (arith, c.loop-i-test.true, c.requires.count)) in
    c.add-sum.ensures
    ∙ ap₂ ◌⊕◌ c.loop-i.invariant
    (c.product.ensures ∙ ap₂ (λ f row. f ⊗ get_or row c.args.c 0) factor row)
    ∙ given-more c.args.first.now ds factors i c.args.c

pub returns : goal.returns
returns c =
    let end : c.loop-i.i ≡ length c.args.factors.now = omega arith in
    c.loop-i.invariant ∙ given-all c.args.first.now c.args.differences.now c.args.factors.now c.loop-i.i c.args.c end
