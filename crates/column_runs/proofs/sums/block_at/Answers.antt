use Rattle.std.proofs.Common.{◌≡◌, ◌+◌, ◌<◌, [], length, ◌∙◌, arith}
use Rattle.std.proofs.lemmas.List.{get_or_default}
use Rattle.column_runs.proofs.MadeSums.{lanes-none, lanes-more, lanes-all}
use Rattle.column_runs.proofs.sums.block_at.Goals as goal

pub loop-i-init : goal.loop-i-init
loop-i-init c =
    let first = c.args.first.now in
    let at = c.args.at in
    let room = c.requires.within in
    record {
      a = lanes-none first c.args.differences.now c.args.factors.now 32 at (omega (arith, room));
      b = lanes-none first c.args.differences.now c.args.factors.now 32 (at + 32) (omega (arith, room));
      c = lanes-none first c.args.differences.now c.args.factors.now 32 (at + 64) (omega (arith, room));
      d = lanes-none first c.args.differences.now c.args.factors.now 32 (at + 96) (omega (arith, room));
    }

pub loop-i-preserved : goal.loop-i-preserved
loop-i-preserved c =
    let i = c.loop-i.i in
    let at = c.args.at in
    let first = c.args.first.now in
    let factors = c.args.factors.now in
    let ds = c.args.differences.now in
    let within : i < length ds = omega (arith, c.loop-i-test.true, c.requires.count) in
    record {
      a =
          lanes-more first ds factors c.loop-i.a c.products-a.result c.index-differences-i.result i c.index-factors-i.result at
          (c.index-factors-i.is ∙ get_or_default factors i _ 0 c.loop-i-test.true) (c.index-differences-i.is ∙ get_or_default ds i _ [] within)
          c.loop-i.invariant.a c.products-a.ensures;
      b =
          lanes-more first ds factors c.loop-i.b c.products-b.result c.index-differences-i-in-loop-i.result i c.index-factors-i-in-loop-i.result (at + 32)
          (c.index-factors-i-in-loop-i.is ∙ get_or_default factors i _ 0 c.loop-i-test.true) (c.index-differences-i-in-loop-i.is ∙ get_or_default ds i _ [] within)
          c.loop-i.invariant.b c.products-b.ensures;
      c =
          lanes-more first ds factors c.loop-i.c c.products-c.result c.index-differences-i-in-loop-i-2.result i c.index-factors-i-in-loop-i-2.result (at + 64)
          (c.index-factors-i-in-loop-i-2.is ∙ get_or_default factors i _ 0 c.loop-i-test.true) (c.index-differences-i-in-loop-i-2.is ∙ get_or_default ds i _ [] within)
          c.loop-i.invariant.c c.products-c.ensures;
      d =
          lanes-more first ds factors c.loop-i.d c.products-d.result c.index-differences-i-in-loop-i-3.result i c.index-factors-i-in-loop-i-3.result (at + 96)
          (c.index-factors-i-in-loop-i-3.is ∙ get_or_default factors i _ 0 c.loop-i-test.true) (c.index-differences-i-in-loop-i-3.is ∙ get_or_default ds i _ [] within)
          c.loop-i.invariant.d c.products-d.ensures;
    }

pub returns-clause-a : goal.returns-clause-a
returns-clause-a c =
    let end : c.loop-i.i ≡ length c.args.factors.now = omega arith in
    lanes-all c.args.first.now c.args.differences.now c.args.factors.now c.loop-i.a c.loop-i.i c.args.at end c.loop-i.invariant.a

pub returns-clause-b : goal.returns-clause-b
returns-clause-b c =
    let end : c.loop-i.i ≡ length c.args.factors.now = omega arith in
    lanes-all c.args.first.now c.args.differences.now c.args.factors.now c.loop-i.b c.loop-i.i (c.args.at + 32) end c.loop-i.invariant.b

pub returns-clause-c : goal.returns-clause-c
returns-clause-c c =
    let end : c.loop-i.i ≡ length c.args.factors.now = omega arith in
    lanes-all c.args.first.now c.args.differences.now c.args.factors.now c.loop-i.c c.loop-i.i (c.args.at + 64) end c.loop-i.invariant.c

pub returns-clause-d : goal.returns-clause-d
returns-clause-d c =
    let end : c.loop-i.i ≡ length c.args.factors.now = omega arith in
    lanes-all c.args.first.now c.args.differences.now c.args.factors.now c.loop-i.d c.loop-i.i (c.args.at + 96) end c.loop-i.invariant.d
