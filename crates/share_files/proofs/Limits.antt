-- How many bytes a file has, by the rows that it makes.
use Rattle.std.proofs.Common.{◌≡◌, ◌∙◌, ℕ, ◌+◌, ◌*◌, ◌/◌, ◌<◌, ◌≤◌, min, List, length, ap, subst, arith}
use Rattle.std.specs.Prelude.{Option, Some, None, IfSome}
use Rattle.std.specs.Int.{div_ceil}
use Rattle.std.specs.List.{concat}
use Rattle.std.proofs.Math.Nat.{div-mul-le_self, mul-le-mul_right, lt_of_mul-lt-mul_right}
use Rattle.std.proofs.lemmas.Nat.{le-div}
use Rattle.std.proofs.lemmas.Grind.{div_ceil_times}
use Rattle.port_trait.specs.World.{Cell}
use Rattle.quantity_limits.specs.declared.TheConstants.{MOST_ROWS, MOST_CELLS}
use Rattle.block_matrix.specs.Database.{Database, database, filled_up, limit}
use Rattle.block_matrix.specs.Loading.{Holds, HoldsMore, asked_for}
use Rattle.block_matrix.proofs.Rows.{concat-rows_of, length-rows_of}
use Rattle.block_matrix.proofs.Counts.{length-filled_up}
use Rattle.share_files.specs.Limit.{shared_limit, HoldsFew, HoldsTooMany}

-- the rows have no fewer bytes than the file
pub fits_rows : (len width : ℕ) → 0 < width → len ≤ div_ceil len width * width
fits_rows len width some = omega (arith, (div_ceil_times len width some).0)

-- where the rows have more bytes than so many rows, so has the file
pub more_than_rows : (len width most : ℕ) → 0 < width → width * most < div_ceil len width * width → width * most < len
more_than_rows len width most some more =
    let count = div_ceil len width in
    let times = div_ceil_times len width some in
    let over : most * width < count * width = grind (arith, more) in
    let less : most < count = lt_of_mul-lt-mul_right width over in
    let next : (most + 1) * width ≤ count * width = mul-le-mul_right width (omega (arith, less)) in
    grind (arith, times.1, next)

-- the bytes of all rows, by those of the file
row_bytes : (width : ℕ) (read : List ℕ) (m : Database) → m ≡ database width read → length m.rows * m.width ≡ div_ceil (length read) width * width
unfolding database
row_bytes width read m is =
    ap (λ (d : Database). length d.rows * d.width) is ∙ ap (λ (n : ℕ). n * width) (length-rows_of width (div_ceil (length read) width) (filled_up width read))

-- and how many they are, by the bytes themselves
pub length-cells : (width : ℕ) (read : List ℕ) (m : Database) → 0 < width → m ≡ database width read → length (concat m.rows) ≡ div_ceil (length read) width * width
unfolding database
length-cells width read m some is =
    let whole = length-filled_up width read some in
    ap (λ (d : Database). length (concat d.rows)) is
    ∙ ap length (concat-rows_of width (div_ceil (length read) width) (filled_up width read) whole)
    ∙ whole

-- the database isn't too big to be shared
pub holds_few : (width tau : ℕ) (m : Database) (old new : Cell) → 0 < width → Holds width m old new
    → length m.rows * m.width ≤ shared_limit width tau → HoldsFew width tau m old new
holds_few width tau m old new some holds few =
    let same = row_bytes width holds.read m holds.file.is in
    let fits = fits_rows (length holds.read) width some in
    record { holds = holds; few = omega (arith, same, fits, few) }

-- what is more than a limit is more of what was told
told_more : (most : ℕ) (read : List ℕ) (o : Option (List ℕ)) → most < length read → IfSome o (λ held. read ≡ held) → IfSome o (λ held. most < length held)
told_more most read None more all = tt
told_more most read (Some h) more all = subst (λ (l : List ℕ). most < length l) all more

-- the database is too big to be shared
pub holds_too_many : (width tau : ℕ) (m : Database) (old new : Cell) → 0 < width → Holds width m old new
    → shared_limit width tau < length m.rows * m.width → HoldsTooMany width tau old new
unfolding shared_limit
holds_too_many width tau m old new some holds more =
    let same = row_bytes width holds.read m holds.file.is in
    let rows = min MOST_ROWS (MOST_CELLS / (width * tau)) in
    let many : width * rows < length holds.read = more_than_rows (length holds.read) width rows some (omega (arith, same, more)) in
    record {
      n = length holds.read;
      few = omega (arith, holds.file.few);
      cell = holds.cell;
      more = told_more (width * rows) holds.read old.holds many holds.all;
    }

-- a greater degree leaves fewer rows
fewer_rows : (width tau : ℕ) → 0 < width → 1 ≤ tau → MOST_CELLS / (width * tau) ≤ MOST_CELLS / width
fewer_rows width tau some degree =
    let q = MOST_CELLS / (width * tau) in
    let back : q * (width * tau) ≤ MOST_CELLS = div-mul-le_self MOST_CELLS (width * tau) in
    let wider : 1 * (q * width) ≤ tau * (q * width) = mul-le-mul_right (q * width) degree in
    let same : tau * (q * width) ≡ q * (width * tau) = grind arith in
    le-div q MOST_CELLS width some (omega (arith, back, wider, same))

-- a database that is shared has no more bytes than another
shared_limit-le : (width tau : ℕ) → 0 < width → 1 ≤ tau → shared_limit width tau ≤ limit width
unfolding shared_limit
shared_limit-le width tau some degree =
    let fewer = fewer_rows width tau some degree in
    let rows : min MOST_ROWS (MOST_CELLS / (width * tau)) ≤ min MOST_ROWS (MOST_CELLS / width) = omega (arith, fewer) in
    let bytes = mul-le-mul_right width rows in
    grind (arith, bytes)

-- more than the greater limit is more than the lesser
more_than_less : (less most : ℕ) (o : Option (List ℕ)) → less ≤ most → IfSome o (λ held. most < length held) → IfSome o (λ held. less < length held)
more_than_less less most None le more = tt
more_than_less less most (Some h) le more = omega (arith, le, more)

-- what is too big for any database is too big to be shared
pub holds_more : (width tau : ℕ) (old new : Cell) → 0 < width → 1 ≤ tau → HoldsMore width old new → HoldsTooMany width tau old new
holds_more width tau old new some degree holds = record {
  n = asked_for width;
  few = omega arith;
  cell = holds.cell;
  more = more_than_less (shared_limit width tau) (limit width) old.holds (shared_limit-le width tau some degree) holds.more;
}
