use Rattle.std.proofs.Common.{◌≡◌, ℕ, ◌+◌, ◌-◌, ◌*◌, ◌<◌, ◌≤◌, ◌⊎◌, length, take, drop, sym, ap, subst, ◌∙◌, arith, inl, inr}
use Rattle.std.proofs.Math.Nat.{mul-le-mul_right}
use Rattle.std.proofs.lemmas.Bool.{cases_lt}
use borrow.Rule.Slice.PartMut.{put_mid}
use Rattle.gs_interpolate.specs.Family.{IsRowStep}
use Rattle.gs_interpolate.specs.Window.{window_row}
use Rattle.gf256.proofs.FlatRows.{row_within}
use Rattle.gs_interpolate.proofs.Places.{length-part, part_written, part_kept}
use Rattle.gs_interpolate.proofs.window.step_cells.Goals as goal

pub step_row-requires-clause-room : goal.step_row-requires-clause-room
step_row-requires-clause-room c =
    let n = length c.args.factors.now in
    let m = c.args.m in
    let s = m * n in
    let w = c.loop-w.w in
    let cells = c.loop-w.cells in
    let whole : w * s + s - w * s ≡ s = omega arith in
    let fit = row_within w m s (omega arith) in
    let fewer : (m - w) * n ≤ m * n = mul-le-mul_right n (omega arith) in
    let long = ap (λ k. length (take k (drop (w * s) cells))) whole ∙ length-part cells (w * s) s (omega (arith, fit, c.requires.size)) in
    omega (arith, fewer, long)

pub loop-w-preserved : goal.loop-w-preserved
loop-w-preserved c =
    let n = length c.args.factors.now in
    let m = c.args.m in
    let s = m * n in
    let w = c.loop-w.w in
    let old = c.args.cells.now in
    let cells = c.loop-w.cells in
    let new = c.step_row.new.row in
    let whole : w * s + s - w * s ≡ s = omega arith in
    let fit = row_within w m s (omega arith) in
    let room : w * s + s ≤ length cells = omega (arith, fit, c.requires.size) in
    let held = ap (λ k. take k (drop (w * s) cells)) whole in
    let size : length new ≡ s = c.step_row.auto.row ∙ ap length held ∙ length-part cells (w * s) s room in
    let now = put_mid (w * s) s cells new in
    let back = ap (λ k. put_mid (w * s) k cells new) whole in
    let here : window_row n m now w ≡ new = part_written cells new (w * s) s room size in
    let other = λ (k : ℕ) (l : k < m) (apart : (k < w) ⊎ (w < k)).
    let there = row_within k m s l in
    part_kept cells new (w * s) s (k * s) room (omega (arith, there, c.requires.size)) size
    (elim apart [ inl x ↦ inl (row_within k w s x) | inr x ↦ inr (row_within w k s x) ]) in
    record {
      each = subst (λ xs. (k : ℕ) → c.args.v ≤ k → k < w + 1 → k < m → IsRowStep c.args.factors.now c.args.p (window_row n m xs k) (window_row n m old k) (m - k)) (sym back)
          (λ k from l h.
          elim (cases_lt k w) [
            | inl below ↦ subst (λ r. IsRowStep c.args.factors.now c.args.p r (window_row n m old k) (m - k)) (sym (other k h (inl below))) (c.loop-w.invariant.each k from below h)
            | inr past ↦
                let same : w ≡ k = omega arith in
                subst (λ k. IsRowStep c.args.factors.now c.args.p (window_row n m now k) (window_row n m old k) (m - k)) same
                (subst (λ r. IsRowStep c.args.factors.now c.args.p r (window_row n m old w) (m - w)) (sym here)
                (subst (λ r. IsRowStep c.args.factors.now c.args.p new r (m - w)) (held ∙ c.loop-w.invariant.rest w (omega arith) (omega arith)) c.step_row.ensures))
          ]);
      others = subst (λ xs. (k : ℕ) → k < c.args.v → k < m → window_row n m xs k ≡ window_row n m old k) (sym back)
          (λ k before l. other k l (inl (omega (arith, before, c.loop-w.auto.w))) ∙ c.loop-w.invariant.others k before l);
      rest = subst (λ xs. (k : ℕ) → w + 1 ≤ k → k < m → window_row n m xs k ≡ window_row n m old k) (sym back)
          (λ k from l. other k l (inr (omega arith)) ∙ c.loop-w.invariant.rest k (omega arith) l);
    }

pub returns : goal.returns
returns c = record {
  size = c.loop-w.auto.cells;
  each = λ w from l. c.loop-w.invariant.each w from (omega arith) l;
  others = c.loop-w.invariant.others;
}

pub slice_bounds-step_row-count : goal.slice_bounds-step_row-count
slice_bounds-step_row-count c = omega arith

pub slice_bounds-step_row-start : goal.slice_bounds-step_row-start
slice_bounds-step_row-start c = omega arith

pub overflow_sub-m : goal.overflow_sub-m
overflow_sub-m c = omega arith

pub step_row-requires-clause-inside : goal.step_row-requires-clause-inside
step_row-requires-clause-inside c = omega arith

pub overflow_mul-size : goal.overflow_mul-size
overflow_mul-size c =
    let size = c.args.m * length c.args.factors.now in
    let fit = row_within c.loop-w.w c.args.m size (omega arith) in
    omega (arith, fit, c.requires.size)

pub overflow_mul-start : goal.overflow_mul-start
overflow_mul-start c =
    let size = c.args.m * length c.args.factors.now in
    let fit = row_within c.loop-w.w c.args.m size (omega arith) in
    omega (arith, fit, c.requires.size)

pub overflow_add-start : goal.overflow_add-start
overflow_add-start c =
    let size = c.args.m * length c.args.factors.now in
    let fit = row_within c.loop-w.w c.args.m size (omega arith) in
    omega (arith, fit, c.requires.size)

pub slice_bounds-step_row-end : goal.slice_bounds-step_row-end
slice_bounds-step_row-end c =
    let size = c.args.m * length c.args.factors.now in
    let fit = row_within c.loop-w.w c.args.m size (omega arith) in
    omega (arith, fit, c.requires.size)
