use Rattle.std.proofs.Common.{◌≡◌, ℕ, ◌+◌, ◌<◌, length, get_or, map, sym, ap, subst, ◌∙◌, arith}
use Rattle.gs_interpolate.specs.Layout.{IsLayout, IsEquation, IsCut}
use Rattle.gs_interpolate.specs.declared.condition.Condition.{Condition}
use Rattle.gs_interpolate.proofs.Interpolants.{interpolant}
use Rattle.gs_interpolate.proofs.elimination.EliminationInterpolate.interpolate.Goals as goal

pub returns : goal.returns
returns c =
    let cs = c.in_ok-conditions.conditions.items in
    let ns = c.in_ok-lengths.lengths.items in
    let table = c.in_ok-table.table in
    let v = c.in_ok-coefficients.coefficients.items in
    let rows = map (λ r. r.items) c.in_ok-rows.rows.items in
    let T = c.in_ok-table.ensures in
    let count : c.len.result ≡ length cs = omega (arith, c.len.ensures) in
    interpolant c.args.points.now c.args.m c.args.t c.args.d cs ns table v c.from_rows.result
    record {
      conditions = c.in_ok-conditions.ensures;
      layout = subst (λ n. IsLayout ns (n + 1) c.args.t c.args.d) count c.in_ok-lengths.ensures;
      height = T.height ∙ ap length c.deref.ensures.value;
      width = T.width ∙ ap (λ n. n + 1) count;
      equations =
          subst (λ xs. (r : ℕ) (d : Condition) → r < length xs → IsEquation table r ns (get_or xs r d)) c.deref.ensures.value
          (subst (λ xs. (r : ℕ) (d : Condition) → r < length c.deref.result.now → IsEquation table r xs (get_or c.deref.result.now r d)) c.deref-2.ensures.value
          T.equations);
      kernel = c.in_ok-coefficients.ensures;
      cut =
          subst (λ q. IsCut q ns v) (sym c.from_rows.ensures)
          (subst (λ w. IsCut rows ns w) c.deref-3.ensures.value (subst (λ xs. IsCut rows xs c.deref-3.result.now) c.deref-4.ensures.value c.in_ok-rows.ensures));
    }

pub row_lengths-requires-clause-weight : goal.row_lengths-requires-clause-weight
row_lengths-requires-clause-weight c = omega arith

pub row_lengths-requires-clause-degree : goal.row_lengths-requires-clause-degree
row_lengths-requires-clause-degree c = omega arith
