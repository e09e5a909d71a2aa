use Rattle.std.proofs.Common.{rules, ◌≡◌, ◌+◌, ◌*◌, length, get_or, ap, ◌∙◌, arith}
use Rattle.std.specs.Option.{unwrap_or}
use Rattle.std.proofs.lemmas.Result.{IfOk-from_err}
use borrow.Author.Count.{falls, below_none}
use Rattle.gf256.proofs.FlatRows.{row_within}
use Rattle.gs_interpolate.proofs.Pushed.{pushed_size, pushed_each}
use Rattle.gs_interpolate.proofs.family.coefficients.Goals as goal

pub overflow_mul-i : goal.overflow_mul-i
overflow_mul-i c = omega (arith, row_within c.loop-i.i c.args.count c.args.lanes (omega arith))

pub overflow_add-i : goal.overflow_add-i
overflow_add-i c = omega (arith, row_within c.loop-i.i c.args.count c.args.lanes (omega arith))

pub loop-i-init : goal.loop-i-init
loop-i-init c = record {
  size = ap length c.in_ok-made.ensures.items;
  each = below_none (λ k. get_or c.in_ok-made.made.items k 0 ≡ get_or c.args.row.now (k * c.args.lanes + c.args.g) 0);
}

pub loop-i-smaller : goal.loop-i-smaller
loop-i-smaller c = falls c.args.count c.loop-i.i c.loop-i-test.true

pub loop-i-preserved : goal.loop-i-preserved
loop-i-preserved c =
    let i = c.loop-i.i in
    let old = c.loop-i.made.items in
    let new = c.push.new.self.items in
    let x = c.unwrap_or.result in
    record {
      size = pushed_size old new x i c.in_ok-push.ensures.items c.loop-i.invariant.size;
      each = pushed_each (λ k y. y ≡ get_or c.args.row.now (k * c.args.lanes + c.args.g) 0) 0 old new x i c.in_ok-push.ensures.items c.loop-i.invariant.size
          c.loop-i.invariant.each (c.unwrap_or.ensures ∙ ap (λ o. unwrap_or o 0) c.copied.ensures ∙ (search rules));
    }

pub returns-in_err-made : goal.returns-in_err-made
returns-in_err-made c = IfOk-from_err c.from_residual.result _ c.from_residual.ensures.0

pub returns-in_err-push : goal.returns-in_err-push
returns-in_err-push c = IfOk-from_err c.from_residual-in_err-push.result _ c.from_residual-in_err-push.ensures.0

pub returns : goal.returns
returns c =
    let all : c.loop-i.i ≡ c.args.count = omega arith in
    record {
      size = c.loop-i.invariant.size ∙ all;
      each = λ i l. c.loop-i.invariant.each i (omega (arith, all, l));
    }
