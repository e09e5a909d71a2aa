use Rattle.std.proofs.Common.{◌+◌, get_or, subst, ◌∙◌, arith, below_more}
use Rattle.std.proofs.lemmas.List.{get_or_default}
use Rattle.gs_interpolate.specs.Layout.{start, IsEquation}
use Rattle.gs_interpolate.proofs.Layouts.{start-within}
use Rattle.gs_interpolate.proofs.elimination.equations.Goals as goal

pub loop-r-preserved : goal.loop-r-preserved
loop-r-preserved c =
    let ns = c.args.lengths.now in
    let l = c.loop-r in
    let new = c.write_equation.new.table in
    let W = c.write_equation.ensures in
    record {
      height = W.height ∙ l.invariant.height;
      width = W.width ∙ l.invariant.width;
      equations = λ r d k.
          below_more (λ x. IsEquation new x ns (get_or c.args.conditions.now x d)) l.r
          (λ x b j i row h.
          let inside = start-within ns j row in
          W.kept x (start ns j + i) (λ e. omega (arith, e, b)) (omega (arith, inside, h, l.invariant.width, c.requires.unknowns))
          ∙ l.invariant.equations x d b j i row h)
          (subst (IsEquation new l.r ns) (get_or_default c.args.conditions.now l.r _ d (omega arith)) W.written)
          r k;
    }

pub overflow_cast-conditions : goal.overflow_cast-conditions
overflow_cast-conditions c = omega arith

pub offset_bounds-conditions-r : goal.offset_bounds-conditions-r
offset_bounds-conditions-r c = omega arith

pub bounds-conditions-r : goal.bounds-conditions-r
bounds-conditions-r c = omega arith

pub overflow_cast-r : goal.overflow_cast-r
overflow_cast-r c = omega arith
