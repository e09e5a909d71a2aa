use Rattle.std.proofs.Common.{◌≡◌, ◌+◌, ◌≤◌, ◌<◌, ℕ, List, [], Bor, Vec, Global, length, map, get_or, take, drop, All, sym, ap, ap₂, subst, ◌∙◌, ◌++◌, arith, get_or-take, get_or-drop, length-drop, length-append}
use Rattle.std.proofs.lemmas.List.{length-take-le, length-take, get_or_append_left}
use Rattle.column_runs.specs.Tile.{with_differences, tile, Agree}
use Rattle.column_runs.proofs.ColumnPoints.{length-rows}
use Rattle.column_runs.proofs.DifferenceRows.{items_at, length-items, room_kept}
use Rattle.column_runs.proofs.TileColumns.{is_tile}
use Rattle.column_runs.proofs.tile.decode_tile.Goals as goal

-- the beginning of a row from a column on has as many places as are asked for
length-first : (rows : List (List ℕ)) (from n : ℕ) (row : List ℕ) → 0 < length rows → All (λ row. from + n ≤ length row) rows
    → row ≡ drop from (get_or rows 0 []) → length (take n row) ≡ n
length-first rows from n row some widths is =
    let wide = widths 0 [] some in
    let size = ap length is ∙ length-drop from (get_or rows 0 []) in
    length-take-le n row (omega (arith, wide, size))

pub agreeing-columns-requires-clause-room : goal.agreeing-columns-requires-clause-room
agreeing-columns-requires-clause-room c =
    let rows = map (λ (row : Bor (List ℕ)). row.now) c.args.rows.now in
    let n = length c.args.out.now in
    let count = length-rows c.args.rows.now in
    let some : 0 < length rows = let all = c.requires.rows in omega (arith, count, all) in
    let size = length-first rows c.args.from n c.row_from.result.now some c.requires.widths c.row_from.ensures in
    subst (λ n. All (λ (d : List ℕ). n ≤ length d) c.subtract.new.differences) (sym size)
    (room_kept c.args.differences.now c.subtract.new.differences n c.subtract.auto.differences c.subtract.ensures.sizes c.requires.room)

pub extend-requires-clause-room : goal.extend-requires-clause-room
extend-requires-clause-room c = λ k d l.
    let within = c.agreeing-columns.ensures.within in
    let first = take (length c.args.out.now) c.row_from.result.now in
    let front = length-take-le c.agreeing-columns.result first within in
    let size = length-take (length c.args.out.now) c.row_from.result.now in
    let room =
    room_kept c.args.differences.now c.subtract.new.differences (length c.args.out.now) c.subtract.auto.differences c.subtract.ensures.sizes c.requires.room k d l in
    omega (arith, within, front, size, room)

pub returns-clause-tile : goal.returns-clause-tile
returns-clause-tile c =
    let rows = map (λ (row : Bor (List ℕ)). row.now) c.args.rows.now in
    let from = c.args.from in
    let n = length c.args.out.now in
    let row = c.row_from.result.now in
    let first = take n row in
    let ds = c.subtract.new.differences in
    let others = c.args.factors.now.others.items in
    let lists = map (λ (f : Vec ℕ Global). f.items) others in
    let zero = c.args.factors.now.zero.items in
    let count = length-rows c.args.rows.now in
    let some : 0 < length rows = let all = c.requires.rows in omega (arith, count, all) in
    let size = length-first rows from n row some c.requires.widths c.row_from.ensures in
    let many = length-items others in
    let held = c.subtract.auto.differences ∙ c.requires.count in
    let list = c.deref.ensures.value in
    let factors = c.deref-2.ensures.value in
    let Agrees = λ (vs : List (Vec ℕ Global)) (k : ℕ). Agree rows (tile from first ds) (map (λ (f : Vec ℕ Global). f.items) vs) k (length vs) in
    let columns = c.agreeing-columns.result in
    let within = c.agreeing-columns.ensures.within in
    let front = length-take-le columns first within in
    let rest = drop columns c.args.out.now in
    let made : length c.extend.new.sums ≡ columns =
    let all = c.extend.auto.sums in
    let part = length-take-le columns c.args.out.now (omega (arith, within, size)) in
    omega (arith, all, part) in
    let long : length (c.extend.new.sums ++ rest) ≡ length first =
    let all = length-append c.extend.new.sums rest in
    let behind = length-drop columns c.args.out.now in
    omega (arith, all, behind, made, within, size) in
    is_tile rows from first ds c.subtract.ensures.each
    (λ k l. get_or-take n row k 0 (omega (arith, l, size)) ∙ ap (λ r. get_or r k 0) c.row_from.ensures ∙ get_or-drop from (get_or rows 0 []) k 0)
    lists
    (λ k l.
    let m : k < length others = omega (arith, l, many) in
    ap length (sym (items_at others k c.args.factors.now.zero m)) ∙ c.requires.factors k c.args.factors.now.zero m ∙ sym held)
    zero (c.extend.new.sums ++ rest) columns (sym held) long within
    (λ k l. subst (λ n. Agree rows (tile from first ds) lists k n) (sym many) (subst (λ vs. Agrees vs k) list (c.agreeing-columns.ensures.agree k l)))
    (λ l agree.
    c.agreeing-columns.ensures.differ l
    (subst (λ vs. Agrees vs columns) (sym list) (subst (λ n. Agree rows (tile from first ds) lists columns n) many agree)))
    (λ k l.
    get_or_append_left c.extend.new.sums rest 0 k (omega (arith, l, made)) ∙ c.extend.ensures k (omega (arith, l, front))
    ∙ ap₂ (λ f x. with_differences f ds x k) factors (get_or-take columns first k 0 l))

pub subtract-requires-clause-widths : goal.subtract-requires-clause-widths
subtract-requires-clause-widths c =
    let rows = map (λ (row : Bor (List ℕ)). row.now) c.args.rows.now in
    let count = length-rows c.args.rows.now in
    let some : 0 < length rows = let all = c.requires.rows in omega (arith, count, all) in
    let size = length-first rows c.args.from (length c.args.out.now) c.row_from.result.now some c.requires.widths c.row_from.ensures in
    subst (λ (n : ℕ). All (λ (row : List ℕ). c.args.from + n ≤ length row) rows) (sym size) c.requires.widths

pub agreeing-columns-requires-clause-widths : goal.agreeing-columns-requires-clause-widths
agreeing-columns-requires-clause-widths c =
    let rows = map (λ (row : Bor (List ℕ)). row.now) c.args.rows.now in
    let count = length-rows c.args.rows.now in
    let some : 0 < length rows = let all = c.requires.rows in omega (arith, count, all) in
    let size = length-first rows c.args.from (length c.args.out.now) c.row_from.result.now some c.requires.widths c.row_from.ensures in
    subst (λ (n : ℕ). All (λ (row : List ℕ). c.args.from + n ≤ length row) rows) (sym size) c.requires.widths

pub subtract-requires-clause-room : goal.subtract-requires-clause-room
subtract-requires-clause-room c =
    let rows = map (λ (row : Bor (List ℕ)). row.now) c.args.rows.now in
    let count = length-rows c.args.rows.now in
    let some : 0 < length rows = let all = c.requires.rows in omega (arith, count, all) in
    let size = length-first rows c.args.from (length c.args.out.now) c.row_from.result.now some c.requires.widths c.row_from.ensures in
    subst (λ (n : ℕ). All (λ (d : List ℕ). n ≤ length d) c.args.differences.now) (sym size) c.requires.room

pub agreeing-columns-requires-clause-rows : goal.agreeing-columns-requires-clause-rows
agreeing-columns-requires-clause-rows c =
    let others = ap length c.deref.ensures.value in
    omega (arith, others, c.requires.rows, c.requires.count, c.subtract.auto.differences)

pub agreeing-columns-requires-clause-factors : goal.agreeing-columns-requires-clause-factors
agreeing-columns-requires-clause-factors c =
    let held = c.subtract.auto.differences ∙ c.requires.count in
    subst (All (λ (f : Vec ℕ Global). length f.items ≡ length c.subtract.new.differences)) (sym c.deref.ensures.value)
    (subst (λ (n : ℕ). All (λ (f : Vec ℕ Global). length f.items ≡ n) c.args.factors.now.others.items) (sym held) c.requires.factors)

pub returns-clause-sizes : goal.returns-clause-sizes
returns-clause-sizes c = c.subtract.ensures.sizes

pub extend-requires-clause-count : goal.extend-requires-clause-count
extend-requires-clause-count c = ap length c.deref-2.ensures.value ∙ sym (c.subtract.auto.differences ∙ c.requires.count)

pub row_from-requires-clause-place : goal.row_from-requires-clause-place
row_from-requires-clause-place c = omega (arith, c.requires.rows)

pub row_from-requires-clause-within : goal.row_from-requires-clause-within
row_from-requires-clause-within c =
    let rows = map (λ (row : Bor (List ℕ)). row.now) c.args.rows.now in
    let some : 0 < length rows = omega (arith, length-rows c.args.rows.now, c.requires.rows) in
    let wide = c.requires.widths 0 [] some in
    omega (arith, wide)

pub slice_bounds-first-end : goal.slice_bounds-first-end
slice_bounds-first-end c =
    let rows = map (λ (row : Bor (List ℕ)). row.now) c.args.rows.now in
    let some : 0 < length rows = omega (arith, length-rows c.args.rows.now, c.requires.rows) in
    let wide = c.requires.widths 0 [] some in
    let long = ap length c.row_from.ensures ∙ length-drop c.args.from (get_or rows 0 []) in
    let size = length-first rows c.args.from (length c.args.out.now) c.row_from.result.now some c.requires.widths c.row_from.ensures in
    omega (arith, wide, long, size)

pub subtract-requires-clause-rows : goal.subtract-requires-clause-rows
subtract-requires-clause-rows c = omega (arith, c.requires.rows, c.requires.count)
