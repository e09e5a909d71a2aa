use Rattle.std.proofs.Common.{◌≡◌, ℕ, ◌+◌, ◌<◌, get_or, sym, ap, ◌∙◌, arith, inl, inr, below_more}
use Rattle.linear_solve.specs.Matrix.{entry}
use Rattle.gs_interpolate.specs.Layout.{start}
use Rattle.gs_interpolate.specs.Conditions.{derivative_of}
use Rattle.gs_interpolate.proofs.Layouts.{start-next, start-within, start-before}
use Rattle.gs_interpolate.proofs.elimination.write_equation.Goals as goal

pub loop-j-preserved : goal.loop-j-preserved
loop-j-preserved c =
    let ns = c.args.lengths.now in
    let l = c.loop-j in
    let new = c.write_row.new.table in
    let W = c.write_row.ensures in
    let next = start-next ns l.j (omega arith) in
    let inside = start-within ns l.j (omega arith) in
    let width = l.invariant.width in
    record {
      column = omega (arith, l.invariant.column);
      height = W.height ∙ l.invariant.height;
      width = W.width ∙ l.invariant.width;
      written = λ j i k inrow.
          below_more (λ x. (i : ℕ) → i < get_or ns x 0 → entry new c.args.r (start ns x + i) ≡ derivative_of c.args.condition.now i x) l.j
          (λ x b i h.
          let before = start-before ns x l.j b (omega arith) in
          W.kept c.args.r (start ns x + i) (omega (arith, before, h, inside, width)) (inr (omega (arith, before, h, l.invariant.column)))
          ∙ l.invariant.written x i b h)
          (λ i h. ap (λ x. entry new c.args.r (x + i)) (sym l.invariant.column) ∙ W.written i h)
          j k i inrow;
      kept = λ s k other h. W.kept s k (omega (arith, h, width)) (inl other) ∙ l.invariant.kept s k other h;
    }

pub offset_bounds-lengths-j : goal.offset_bounds-lengths-j
offset_bounds-lengths-j c = omega arith

pub bounds-lengths-j : goal.bounds-lengths-j
bounds-lengths-j c = omega arith

pub overflow_cast-j : goal.overflow_cast-j
overflow_cast-j c = omega arith

pub overflow_add-column : goal.overflow_add-column
overflow_add-column c = omega (arith, start-within c.args.lengths.now c.loop-j.j (omega arith), c.loop-j.invariant.column)
