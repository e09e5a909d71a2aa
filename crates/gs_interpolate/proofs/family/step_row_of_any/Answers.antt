use Rattle.std.proofs.Common.{◌≡◌, ◌<◌, ◌+◌, ◌-◌, ◌*◌, ◌≤◌, length, get_or, take, drop, refl, sym, ap, subst, ◌∙◌, arith}
use borrow.Rule.Slice.PartMut.{put_mid}
use borrow.Author.Count.{falls}
use Rattle.gs_interpolate.specs.Family.{IsCellStep, IsRowStep}
use Rattle.gf256.proofs.FlatRows.{row_within}
use Rattle.gs_interpolate.proofs.Places.{length-part, length-power}
use Rattle.gs_interpolate.proofs.RowSteps.{IsNextPower, row_step-none, row_step-next, carried_on}
use Rattle.gs_interpolate.proofs.family.step_row_of_any.Goals as goal

pub loop-i-init : goal.loop-i-init
unfolding Rattle.gs_interpolate.specs.Family.preceding
loop-i-init c = record { carry = refl; done = row_step-none c.args.factors.now c.args.row.now c.args.p }

pub loop-i-preserved : goal.loop-i-preserved
loop-i-preserved c =
    let factors = c.args.factors.now in
    let n = length factors in
    let p = c.args.p in
    let i = c.loop-i.i in
    let row = c.loop-i.row in
    let before = c.args.row.now in
    let part = c.step_cell-carry.new.cell in
    let whole : i * n + n - i * n ≡ n = omega arith in
    let fit = row_within i c.args.count n c.loop-i-test.true in
    let room : i * n + n ≤ length before = omega (arith, fit, c.requires.room) in
    let held = ap (λ k. take k (drop (i * n) row)) whole in
    let own = c.step_cell-carry.ensures.own ∙ ap (λ xs. get_or xs p 0) held in
    let next : IsNextPower factors row before part p c.loop-i.carry i = record {
      inside = c.requires.inside;
      long = c.loop-i.auto.row;
      room = room;
      done = c.loop-i.invariant.done;
      carried = c.loop-i.invariant.carry;
      byte = subst (λ x. x < 256) own c.step_cell-carry.type_inv;
      size = c.step_cell-carry.auto.cell ∙ ap length held ∙ length-part row (i * n) n (omega (arith, room, c.loop-i.auto.row));
      step = subst (IsCellStep factors p c.loop-i.carry part) held c.step_cell-carry.ensures.step;
    } in
    record {
      carry = own ∙ carried_on next;
      done = subst (λ k. IsRowStep factors p (put_mid (i * n) k row part) before (i + 1)) (sym whole) (row_step-next next);
    }

pub overflow_mul-start : goal.overflow_mul-start
overflow_mul-start c = omega (arith, row_within c.loop-i.i c.args.count (length c.args.factors.now) c.loop-i-test.true, c.requires.room)

pub overflow_add-start : goal.overflow_add-start
overflow_add-start c = omega (arith, row_within c.loop-i.i c.args.count (length c.args.factors.now) c.loop-i-test.true, c.requires.room)

pub slice_bounds-step_cell-count : goal.slice_bounds-step_cell-count
slice_bounds-step_cell-count c = omega arith

pub slice_bounds-step_cell-start : goal.slice_bounds-step_cell-start
slice_bounds-step_cell-start c = omega arith

pub slice_bounds-step_cell-end : goal.slice_bounds-step_cell-end
slice_bounds-step_cell-end c = omega (arith, row_within c.loop-i.i c.args.count (length c.args.factors.now) c.loop-i-test.true, c.requires.room, c.loop-i.auto.row)

pub step_cell-carry-requires-clause-size : goal.step_cell-carry-requires-clause-size
step_cell-carry-requires-clause-size c =
    sym (length-power c.loop-i.row (length c.args.factors.now) c.loop-i.i c.args.count _ c.loop-i-test.true c.requires.room c.loop-i.auto.row)

pub step_cell-carry-requires-clause-inside : goal.step_cell-carry-requires-clause-inside
step_cell-carry-requires-clause-inside c =
    subst (λ n. c.args.p < n) (sym (length-power c.loop-i.row (length c.args.factors.now) c.loop-i.i c.args.count _ c.loop-i-test.true c.requires.room c.loop-i.auto.row)) c.requires.inside

pub loop-i-smaller : goal.loop-i-smaller
loop-i-smaller c = falls c.args.count c.loop-i.i c.loop-i-test.true

pub returns : goal.returns
returns c =
    let all : c.loop-i.i ≡ c.args.count = omega arith in
    subst (IsRowStep c.args.factors.now c.args.p c.loop-i.row c.args.row.now) all c.loop-i.invariant.done
