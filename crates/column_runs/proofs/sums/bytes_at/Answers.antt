use Rattle.std.proofs.Common.{◌≡◌, [], length, ◌∙◌, arith}
use Rattle.std.proofs.lemmas.List.{get_or_default}
use Rattle.column_runs.proofs.MadeSums.{lanes-none, lanes-more, lanes-all}
use Rattle.column_runs.proofs.sums.bytes_at.Goals as goal

pub loop-i-init : goal.loop-i-init
loop-i-init g c = lanes-none c.args.first.now c.args.differences.now c.args.factors.now g.row.N c.args.at c.requires.within

pub loop-i-preserved : goal.loop-i-preserved
loop-i-preserved g c =
    let i = c.loop-i.i in
    let factors = c.args.factors.now in
    let ds = c.args.differences.now in
    let factor = c.index-factors-i.is ∙ get_or_default factors i _ 0 c.loop-i-test.true in
    let row = c.index-differences-i.is ∙ get_or_default ds i _ [] (omega (arith, c.loop-i-test.true, c.requires.count)) in
    lanes-more c.args.first.now ds factors c.loop-i.sums c.products-sums.result c.index-differences-i.result i c.index-factors-i.result c.args.at
    factor row c.loop-i.invariant c.products-sums.ensures

pub returns : goal.returns
returns g c =
    let end : c.loop-i.i ≡ length c.args.factors.now = omega arith in
    lanes-all c.args.first.now c.args.differences.now c.args.factors.now c.loop-i.sums c.loop-i.i c.args.at end c.loop-i.invariant
