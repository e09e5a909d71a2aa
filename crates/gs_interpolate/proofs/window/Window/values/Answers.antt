use Rattle.std.proofs.Common.{ap, arith, ℕ, ◌≡◌, ◌+◌, ◌*◌, ◌<◌, ◌≤◌}
use Rattle.gf256.proofs.FlatRows.{row_within}
use Rattle.gs_interpolate.proofs.window.Window.values.Goals as goal

-- the cells of a row of a window are among all
row_fits : (u v m n cells : ℕ) → u + v < m → cells ≡ m * (m * n) → v * (m * n) + m * n ≤ cells
row_fits u v m n cells l size = omega (arith, row_within v m (m * n) (omega arith), size)

-- the order is one of the window's
in_order : (u v m k : ℕ) → u + v < m → k ≡ m → u + v < k
in_order u v m k l same = omega (arith, l, same)

pub slice_bounds-row-count : goal.slice_bounds-row-count
slice_bounds-row-count c = omega arith

pub slice_bounds-row-start : goal.slice_bounds-row-start
slice_bounds-row-start c = omega arith

pub slice_bounds-result-count : goal.slice_bounds-result-count
slice_bounds-result-count c = omega arith

pub slice_bounds-result-start : goal.slice_bounds-result-start
slice_bounds-result-start c = omega arith

pub overflow_mul-size : goal.overflow_mul-size
overflow_mul-size c =
    let row = row_fits c.args.u c.args.v c.self.inside.m c.self.inside.lanes _ (in_order c.args.u c.args.v _ _ c.requires (ap (λ w. w.m) c.self.view_is)) c.self.invariant in
    let part = row_within c.args.u c.self.inside.m c.self.inside.lanes (omega (arith, c.requires, ap (λ w. w.m) c.self.view_is)) in
    omega (arith, row, part)

pub overflow_mul-row : goal.overflow_mul-row
overflow_mul-row c =
    let row = row_fits c.args.u c.args.v c.self.inside.m c.self.inside.lanes _ (in_order c.args.u c.args.v _ _ c.requires (ap (λ w. w.m) c.self.view_is)) c.self.invariant in
    let part = row_within c.args.u c.self.inside.m c.self.inside.lanes (omega (arith, c.requires, ap (λ w. w.m) c.self.view_is)) in
    omega (arith, row, part)

pub overflow_mul-row-2 : goal.overflow_mul-row-2
overflow_mul-row-2 c =
    let row = row_fits c.args.u c.args.v c.self.inside.m c.self.inside.lanes _ (in_order c.args.u c.args.v _ _ c.requires (ap (λ w. w.m) c.self.view_is)) c.self.invariant in
    let part = row_within c.args.u c.self.inside.m c.self.inside.lanes (omega (arith, c.requires, ap (λ w. w.m) c.self.view_is)) in
    omega (arith, row, part)

pub overflow_add-row : goal.overflow_add-row
overflow_add-row c =
    let row = row_fits c.args.u c.args.v c.self.inside.m c.self.inside.lanes _ (in_order c.args.u c.args.v _ _ c.requires (ap (λ w. w.m) c.self.view_is)) c.self.invariant in
    let part = row_within c.args.u c.self.inside.m c.self.inside.lanes (omega (arith, c.requires, ap (λ w. w.m) c.self.view_is)) in
    omega (arith, row, part)

pub slice_bounds-row-end : goal.slice_bounds-row-end
slice_bounds-row-end c =
    let row = row_fits c.args.u c.args.v c.self.inside.m c.self.inside.lanes _ (in_order c.args.u c.args.v _ _ c.requires (ap (λ w. w.m) c.self.view_is)) c.self.invariant in
    let part = row_within c.args.u c.self.inside.m c.self.inside.lanes (omega (arith, c.requires, ap (λ w. w.m) c.self.view_is)) in
    omega (arith, row, part)

pub overflow_mul-result : goal.overflow_mul-result
overflow_mul-result c =
    let row = row_fits c.args.u c.args.v c.self.inside.m c.self.inside.lanes _ (in_order c.args.u c.args.v _ _ c.requires (ap (λ w. w.m) c.self.view_is)) c.self.invariant in
    let part = row_within c.args.u c.self.inside.m c.self.inside.lanes (omega (arith, c.requires, ap (λ w. w.m) c.self.view_is)) in
    omega (arith, row, part)

pub overflow_mul-result-2 : goal.overflow_mul-result-2
overflow_mul-result-2 c =
    let row = row_fits c.args.u c.args.v c.self.inside.m c.self.inside.lanes _ (in_order c.args.u c.args.v _ _ c.requires (ap (λ w. w.m) c.self.view_is)) c.self.invariant in
    let part = row_within c.args.u c.self.inside.m c.self.inside.lanes (omega (arith, c.requires, ap (λ w. w.m) c.self.view_is)) in
    omega (arith, row, part)

pub overflow_add-result : goal.overflow_add-result
overflow_add-result c =
    let row = row_fits c.args.u c.args.v c.self.inside.m c.self.inside.lanes _ (in_order c.args.u c.args.v _ _ c.requires (ap (λ w. w.m) c.self.view_is)) c.self.invariant in
    let part = row_within c.args.u c.self.inside.m c.self.inside.lanes (omega (arith, c.requires, ap (λ w. w.m) c.self.view_is)) in
    omega (arith, row, part)
