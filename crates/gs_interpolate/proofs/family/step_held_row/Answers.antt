use Rattle.std.proofs.Common.{◌≡◌, ◌<◌, ◌+◌, ◌-◌, ◌*◌, ◌≤◌, length, get_or, take, drop, refl, sym, ap, subst, ◌∙◌, arith}
use borrow.Rule.Slice.PartMut.{put_mid}
use borrow.Author.Count.{falls}
use Rattle.gs_interpolate.specs.Family.{IsCellStep, IsRowStep, FillsVectors}
use Rattle.gf256.proofs.FlatRows.{row_within}
use Rattle.gs_interpolate.proofs.Places.{length-part, length-power}
use Rattle.gs_interpolate.proofs.RowSteps.{IsNextPower, cell_step, row_step-none, row_step-next, carried_on}
use Rattle.gs_interpolate.proofs.family.step_held_row.Goals as goal

pub loop-i-init : goal.loop-i-init
unfolding Rattle.gs_interpolate.specs.Family.preceding
loop-i-init g c = record { carry = refl; done = row_step-none c.args.factors.now c.args.row.now c.args.p }

pub loop-i-preserved : goal.loop-i-preserved
loop-i-preserved g c =
    let factors = c.args.factors.now in
    let n = length factors in
    let p = c.args.p in
    let i = c.loop-i.i in
    let row = c.loop-i.row in
    let before = c.args.row.now in
    let part = c.add_carry.new.cell in
    let whole : i * n + n - i * n ≡ n = omega arith in
    let fit = row_within i c.args.count n c.loop-i-test.true in
    let room : i * n + n ≤ length before = omega (arith, fit, c.requires.room) in
    let held = ap (λ k. take k (drop (i * n) row)) whole in
    let byte : get_or (take (i * n + n - i * n) (drop (i * n) row)) p 0 < 256 = omega arith in
    let next : IsNextPower factors row before part p c.loop-i.carry i = record {
      inside = c.requires.inside;
      long = c.loop-i.auto.row;
      room = room;
      done = c.loop-i.invariant.done;
      carried = c.loop-i.invariant.carry;
      byte = subst (λ xs. get_or xs p 0 < 256) held byte;
      size = c.add_carry.auto.cell ∙ c.add_held_multiple.auto.cell ∙ ap length held ∙ length-part row (i * n) n (omega (arith, room, c.loop-i.auto.row));
      step = subst (IsCellStep factors p c.loop-i.carry part) held
          (cell_step factors part c.add_held_multiple.new.cell (take (i * n + n - i * n) (drop (i * n) row)) p c.loop-i.carry
          c.add_held_multiple.ensures c.add_carry.ensures.pivot c.add_carry.ensures.others);
    } in
    record {
      carry = ap (λ xs. get_or xs p 0) held ∙ carried_on next;
      done = subst (λ k. IsRowStep factors p (put_mid (i * n) k row part) before (i + 1)) (sym whole) (row_step-next next);
    }

pub overflow_mul-start : goal.overflow_mul-start
overflow_mul-start g c = omega (arith, row_within c.loop-i.i c.args.count (length c.args.factors.now) c.loop-i-test.true, c.requires.room)

pub overflow_add-cell : goal.overflow_add-cell
overflow_add-cell g c = omega (arith, row_within c.loop-i.i c.args.count (length c.args.factors.now) c.loop-i-test.true, c.requires.room)

pub slice_bounds-cell-count : goal.slice_bounds-cell-count
slice_bounds-cell-count g c = omega arith

pub slice_bounds-cell-start : goal.slice_bounds-cell-start
slice_bounds-cell-start g c = omega arith

pub slice_bounds-cell-end : goal.slice_bounds-cell-end
slice_bounds-cell-end g c = omega (arith, row_within c.loop-i.i c.args.count (length c.args.factors.now) c.loop-i-test.true, c.requires.room, c.loop-i.auto.row)

pub add_held_multiple-requires : goal.add_held_multiple-requires
add_held_multiple-requires g c =
    let factors = c.args.factors.now in
    let power = length-power c.loop-i.row (length factors) c.loop-i.i c.args.count _ c.loop-i-test.true c.requires.room c.loop-i.auto.row in
    (omega (arith, c.requires.vectors), (sym power, (subst (FillsVectors g.row.VECTORS) (sym power) c.requires.lanes, (c.vectors_of-held.ensures, refl))))

pub add_carry-requires : goal.add_carry-requires
add_carry-requires g c =
    let power =
    length-power c.loop-i.row (length c.args.factors.now) c.loop-i.i c.args.count _ c.loop-i-test.true c.requires.room c.loop-i.auto.row in
    subst (λ n. c.args.p < n) (sym (c.add_held_multiple.auto.cell ∙ power)) c.requires.inside

pub bounds-cell-p : goal.bounds-cell-p
bounds-cell-p g c =
    subst (λ n. c.args.p < n) (sym (length-power c.loop-i.row (length c.args.factors.now) c.loop-i.i c.args.count _ c.loop-i-test.true c.requires.room c.loop-i.auto.row)) c.requires.inside

pub loop-i-smaller : goal.loop-i-smaller
loop-i-smaller g c = falls c.args.count c.loop-i.i c.loop-i-test.true

pub returns : goal.returns
returns g c =
    let all : c.loop-i.i ≡ c.args.count = omega arith in
    subst (IsRowStep c.args.factors.now c.args.p c.loop-i.row c.args.row.now) all c.loop-i.invariant.done
