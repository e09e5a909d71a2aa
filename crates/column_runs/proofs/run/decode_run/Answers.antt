use Rattle.std.proofs.Common.{◌<◌, ◌≤◌, ℕ, List, [], All, subst, Bor, Vec, Global, length, map, refl, sym, ap, ◌∙◌, arith}
use Rattle.std.proofs.lemmas.Result.{IfOk-from_err, MatchResult-from_err}
use Rattle.column_runs.proofs.ColumnPoints.{length-rows}
use Rattle.column_runs.proofs.DifferenceRows.{items_at, length-items}
use Rattle.column_runs.proofs.RunColumns.{length-zero, length-other, is_run}
use Rattle.column_runs.proofs.run.decode_run.Goals as goal

pub decode_tiles-done-requires-clause-factors : goal.decode_tiles-done-requires-clause-factors
decode_tiles-done-requires-clause-factors g c = λ k d l.
    let xs = c.args.columns.now.xs.now in
    let lists = c.in_ok-factors.factors.others.items in
    let others = map (λ (f : Vec ℕ Global). f.items) lists in
    let zero = c.in_ok-factors.factors.zero.items in
    let are = c.in_ok-factors.ensures in
    let n = length-items lists in
    ap length (items_at lists k d l) ∙ length-other xs c.args.columns.now.t others zero are k (omega (arith, l, n)) ∙ sym (length-zero xs c.args.columns.now.t others zero are)

pub decode_tiles-done-requires-clause-memory : goal.decode_tiles-done-requires-clause-memory
decode_tiles-done-requires-clause-memory g c =
    let rows = map (λ (row : Bor (List ℕ)). row.now) c.args.columns.now.rows.now in
    let count = length-rows c.args.columns.now.rows.now in
    let same = c.requires.rows in
    let enough = c.requires.enough in
    let some : 0 < length rows = omega (arith, count, same, enough) in
    let wide = c.requires.widths 0 [] some in
    let short = c.rows_are_bytes.ensures.sizes 0 [] some in
    omega (arith, wide, short)

pub returns-clause-run : goal.returns-clause-run
returns-clause-run g c =
    let xs = c.args.columns.now.xs.now in
    let rows = map (λ (row : Bor (List ℕ)). row.now) c.args.columns.now.rows.now in
    let others = map (λ (f : Vec ℕ Global). f.items) c.in_ok-factors.factors.others.items in
    is_run xs rows c.args.columns.now.t others c.in_ok-factors.factors.zero.items c.in_ok-factors.ensures (length-rows c.args.columns.now.rows.now ∙ c.requires.rows)
    c.are_bytes.ensures.bytes c.requires.distinct c.rows_are_bytes.ensures.bytes c.args.from
    c.decode_tiles-done.new.out c.decode_tiles-done.result c.decode_tiles-done.ensures

pub decode_tiles-done-requires-clause-count : goal.decode_tiles-done-requires-clause-count
decode_tiles-done-requires-clause-count g c =
    let lists = c.in_ok-factors.factors.others.items in
    let others = map (λ (f : Vec ℕ Global). f.items) lists in
    let zero = length-zero c.args.columns.now.xs.now c.args.columns.now.t others c.in_ok-factors.factors.zero.items c.in_ok-factors.ensures in
    ap length c.deref_mut.ensures.value ∙ c.in_ok-differences.ensures.count ∙ sym zero

pub decode_tiles-done-requires-clause-rows : goal.decode_tiles-done-requires-clause-rows
decode_tiles-done-requires-clause-rows g c =
    let lists = c.in_ok-factors.factors.others.items in
    let others = map (λ (f : Vec ℕ Global). f.items) lists in
    let zero = length-zero c.args.columns.now.xs.now c.args.columns.now.t others c.in_ok-factors.factors.zero.items c.in_ok-factors.ensures in
    omega (arith, c.in_ok-factors.ensures.count, length-items lists, zero, c.requires.rows)

pub decode_tiles-done-requires-clause-some : goal.decode_tiles-done-requires-clause-some
decode_tiles-done-requires-clause-some g c = c.tile_width-width.ensures

pub decode_tiles-done-requires-clause-room : goal.decode_tiles-done-requires-clause-room
decode_tiles-done-requires-clause-room g c =
    subst (All (λ (d : List ℕ). c.tile_width-width.result ≤ length d)) (sym c.deref_mut.ensures.value)
    (λ k d l. let wide = c.in_ok-differences.ensures.columns k d l in omega (arith, wide))

pub decode_tiles-done-requires-clause-widths : goal.decode_tiles-done-requires-clause-widths
decode_tiles-done-requires-clause-widths g c =
    c.requires.widths

pub returns-clause-cols : goal.returns-clause-cols
returns-clause-cols g c =
    c.count.ensures

pub returns-in_err-factors-clause-run : goal.returns-in_err-factors-clause-run
returns-in_err-factors-clause-run g c = IfOk-from_err c.from_residual.result _ c.from_residual.ensures.0

pub returns-in_err-differences-clause-run : goal.returns-in_err-differences-clause-run
returns-in_err-differences-clause-run g c = IfOk-from_err c.from_residual-in_err-differences.result _ c.from_residual-in_err-differences.ensures.0

pub returns-in_err-factors-clause-cols : goal.returns-in_err-factors-clause-cols
returns-in_err-factors-clause-cols g c = MatchResult-from_err c.from_residual.result _ _ c.from_residual.ensures.0 (λ _. refl)

pub returns-in_err-differences-clause-cols : goal.returns-in_err-differences-clause-cols
returns-in_err-differences-clause-cols g c = MatchResult-from_err c.from_residual-in_err-differences.result _ _ c.from_residual-in_err-differences.ensures.0 (λ _. refl)

pub factors_by_first-requires-clause-enough : goal.factors_by_first-requires-clause-enough
factors_by_first-requires-clause-enough g c = c.requires.enough

pub factors_by_first-requires-clause-distinct : goal.factors_by_first-requires-clause-distinct
factors_by_first-requires-clause-distinct g c = c.requires.distinct
