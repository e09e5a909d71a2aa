-- How many rows the bytes of a file make, and how many bytes the rows have.
use Rattle.std.proofs.Common.{◌≡◌, ◌∙◌, ℕ, ◌+◌, ◌-◌, ◌*◌, ◌/◌, ◌<◌, ◌≤◌, min, List, length, replicate, ap, arith, length-append}
use Rattle.std.specs.Int.{div_ceil}
use Rattle.std.proofs.Math.Nat.{div-mul-le_self, mul-le-mul_right, lt_of_mul-lt-mul_right, min-le_left, min-le_right}
use Rattle.std.proofs.lemmas.Grind.{div_ceil_times}
use Rattle.std.proofs.lemmas.List.{length-replicate}
use Rattle.quantity_limits.specs.declared.TheConstants.{MOST_ROWS, MOST_WIDTH, MOST_CELLS}
use Rattle.quantity_limits.specs.Shape.{IsShape}
use Rattle.block_matrix.specs.Database.{limit, filled_up}

-- no more rows than times the width gives the bytes
div_ceil-le : (len width most : ℕ) → 0 < width → len ≤ width * most → div_ceil len width ≤ most
div_ceil-le len width most some few =
    let times = div_ceil_times len width some in
    let count = div_ceil len width in
    let under : count * width < (most + 1) * width = grind (arith, times.1, few) in
    let less : count < most + 1 = lt_of_mul-lt-mul_right width under in
    omega (arith, less)

-- so many rows have no more cells than a database may have
cells_few : (count width : ℕ) → count ≤ MOST_CELLS / width → count * width ≤ MOST_CELLS
cells_few count width few =
    let most = mul-le-mul_right width few in
    let back = div-mul-le_self MOST_CELLS width in
    omega (arith, most, back)

-- a file that is neither empty nor too big has the shape of a database
pub shape_of_file : (len width : ℕ) → 1 ≤ width → width ≤ MOST_WIDTH → 0 < len → len ≤ limit width → IsShape (div_ceil len width) width
shape_of_file len width some few bytes within =
    let most = min MOST_ROWS (MOST_CELLS / width) in
    let count = div_ceil len width in
    let fits : count ≤ most = div_ceil-le len width most (omega (arith, some)) within in
    let times = div_ceil_times len width (omega (arith, some)) in
    let rows_most : most ≤ MOST_ROWS = min-le_left MOST_ROWS (MOST_CELLS / width) in
    let cells_most : most ≤ MOST_CELLS / width = min-le_right MOST_ROWS (MOST_CELLS / width) in
    let none : count ≡ 0 → count * width ≡ 0 = λ e. ap (λ k. k * width) e ∙ grind arith in
    record {
      some_rows = grind (arith, none, times.0, bytes);
      few_rows = omega (arith, fits, rows_most);
      some_bytes = some;
      few_bytes = few;
      few_cells = cells_few count width (omega (arith, fits, cells_most));
    }

-- the bytes of all rows
pub length-filled_up : (width : ℕ) (bytes : List ℕ) → 0 < width → length (filled_up width bytes) ≡ div_ceil (length bytes) width * width
length-filled_up width bytes some =
    let whole = div_ceil (length bytes) width * width in
    let times = div_ceil_times (length bytes) width some in
    length-append bytes (replicate (whole - length bytes) 0) ∙ ap (λ k. length bytes + k) (length-replicate (whole - length bytes) 0) ∙ omega (arith, times.0)
