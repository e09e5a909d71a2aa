use Rattle.std.proofs.Common.{◌*◌, ◌^◌, ◌<◌, ◌≤◌, ℕ, List, sym, arith}
use Rattle.std.proofs.lemmas.Nat.{mul-le}
use Rattle.quantity_limits.specs.declared.TheConstants.{MOST_ROWS, MOST_WIDTH}
use Rattle.block_matrix.proofs.Rows.{get_or-rows_of, row_fits}
use Rattle.server_calls.specs.Held.{AreRows}
use Rattle.server_calls.proofs.sums.HeldRows.row.Goals as goal

-- a place within so few rows is small
small_place : (j count width : ℕ) (bytes : List ℕ) → AreRows bytes count width → j < count → j * width ≤ 2 ^ 36
small_place j count width bytes are lt =
    let few = are.shape.few_rows in
    let wide = are.shape.few_bytes in
    omega (arith, mul-le j width MOST_ROWS MOST_WIDTH (omega (arith, lt, few)) wide)

pub overflow_mul-result : goal.overflow_mul-result
overflow_mul-result c =
    let small = small_place c.args.j _ _ _ c.requires.rows c.requires.within in omega (arith, small)

pub overflow_mul-result-2 : goal.overflow_mul-result-2
overflow_mul-result-2 c =
    let small = small_place c.args.j _ _ _ c.requires.rows c.requires.within in omega (arith, small)

pub overflow_add-result : goal.overflow_add-result
overflow_add-result c =
    let small = small_place c.args.j _ _ _ c.requires.rows c.requires.within in
    let wide = c.requires.rows.shape.few_bytes in
    omega (arith, small, wide)

pub slice_bounds-result-end : goal.slice_bounds-result-end
slice_bounds-result-end c = row_fits _ _ _ c.args.j c.requires.rows.whole c.requires.within

pub returns : goal.returns
returns c =
    let rows = c.args.self.now in
    sym (get_or-rows_of rows.width rows.count rows.bytes.now c.args.j c.requires.within)
