use Rattle.std.proofs.Common.{◌≡◌, ◌+◌, ◌≤◌, ◌<◌, ℕ, List, [], Bor, Vec, Global, All, drop, length-drop, length, map, get_or, take, sym, ap, ap₂, ◌∙◌, arith, get_or-take, get_or-drop}
use Rattle.std.proofs.lemmas.List.{length-take-le}
use Rattle.column_runs.specs.Tile.{cell, with_differences, given}
use Rattle.column_runs.proofs.ColumnPoints.{length-rows}
use Rattle.column_runs.proofs.DifferenceRows.{items_at}
use Rattle.column_runs.proofs.Agreed.{agree_next, differ_next}
use Rattle.column_runs.proofs.tile.agreeing.Goals as goal

-- a row of which a part begins at a column, and how much of that there is
length-part : (rows : List (List ℕ)) (place from n : ℕ) (row : List ℕ) → place < length rows → All (λ row. from + n ≤ length row) rows → row ≡ drop from (get_or rows place []) → n ≤ length row
length-part rows place from n row there widths is =
    let wide = widths place [] there in
    let size = ap length is ∙ length-drop from (get_or rows place []) in
    omega (arith, wide, size)

pub loop-k-preserved : goal.loop-k-preserved
loop-k-preserved c =
    let rows = map (λ row. row.now) c.args.rows.now in
    let from = c.args.from in
    let first = c.args.first.now in
    let ds = c.args.differences.now in
    let fs = map (λ (f : Vec ℕ Global). f.items) c.args.others.now in
    let k = c.loop-k.k in
    let columns = c.loop-k.columns in
    let room = c.loop-k.invariant.within in
    let size = length-take-le columns first room in
    let row = take columns c.row_from.result.now in
    let factors = c.deref.ensures.value ∙ ap (λ (f : Vec ℕ Global). f.items) c.index-others-k.is ∙ items_at c.args.others.now k _ c.loop-k-test.true in
    let wanted : (i : ℕ) → i < columns → given (take columns first) ds c.deref.result.now i ≡ given first ds (get_or fs k []) i =
    λ i l. ap₂ (λ f x. with_differences f ds x i) factors (get_or-take columns first i 0 l) in
    let has : (i : ℕ) → i < columns → get_or row i 0 ≡ cell rows (from + i) (length ds + 1 + k) =
    λ i l.
    get_or-take columns c.row_from.result.now i 0 l ∙ ap (λ r. get_or r i 0) c.row_from.ensures
    ∙ get_or-drop from (get_or rows (length ds + 1 + k) []) i 0 in
    let n = c.agreed_length-columns.result in
    let within = c.agreed_length-columns.ensures.within in
    let less : n ≤ columns = omega (arith, within, size) in
    record {
      within = omega (arith, less, room);
      agree = λ i l.
          agree_next rows from first ds fs k columns (λ i. get_or row i 0) has i (omega (arith, l, less))
          (c.loop-k.invariant.agree i (omega (arith, l, less)))
          (c.agreed_length-columns.ensures.same i l ∙ wanted i (omega (arith, l, less)));
      differ = λ l.
          differ_next rows from first ds fs k columns (λ i. get_or row i 0) has n less room
          (λ m same. c.agreed_length-columns.ensures.differ (omega (arith, m, size)) (same ∙ sym (wanted n m))) c.loop-k.invariant.differ l;
    }

pub loop-k-init : goal.loop-k-init
loop-k-init c =
    record {
      within = omega arith;
      agree = λ i l k none. absurd (omega (arith, none));
      differ = λ l. absurd (omega (arith, l));
    }

pub agreed_length-columns-requires-clause-room : goal.agreed_length-columns-requires-clause-room
agreed_length-columns-requires-clause-room c =
    λ k d l.
    let size = length-take-le c.loop-k.columns c.args.first.now c.loop-k.invariant.within in
    let room = c.requires.room k d l in
    omega (arith, size, room, c.loop-k.invariant.within)

pub agreed_length-columns-requires-clause-count : goal.agreed_length-columns-requires-clause-count
agreed_length-columns-requires-clause-count c =
    ap length (c.deref.ensures.value ∙ ap (λ (f : Vec ℕ Global). f.items) c.index-others-k.is) ∙ c.requires.factors c.loop-k.k _ c.loop-k-test.true

pub row_from-requires-clause-within : goal.row_from-requires-clause-within
row_from-requires-clause-within c =
    let rows = map (λ (row : Bor (List ℕ)). row.now) c.args.rows.now in
    let place = length c.args.differences.now + 1 + c.loop-k.k in
    let there : place < length rows = omega (arith, length-rows c.args.rows.now, c.requires.rows, c.loop-k-test.true) in
    let wide = c.requires.widths place [] there in
    omega (arith, wide)

pub slice_bounds-row-end : goal.slice_bounds-row-end
slice_bounds-row-end c =
    let rows = map (λ (row : Bor (List ℕ)). row.now) c.args.rows.now in
    let place = length c.args.differences.now + 1 + c.loop-k.k in
    let there : place < length rows = omega (arith, length-rows c.args.rows.now, c.requires.rows, c.loop-k-test.true) in
    let wide = length-part rows place c.args.from (length c.args.first.now) c.row_from.result.now there c.requires.widths c.row_from.ensures in
    let size = length-take-le c.loop-k.columns c.row_from.result.now (omega (arith, wide, c.loop-k.invariant.within)) in
    sym size

pub agreed_length-columns-requires-clause-width : goal.agreed_length-columns-requires-clause-width
agreed_length-columns-requires-clause-width c =
    let rows = map (λ (row : Bor (List ℕ)). row.now) c.args.rows.now in
    let place = length c.args.differences.now + 1 + c.loop-k.k in
    let there : place < length rows = omega (arith, length-rows c.args.rows.now, c.requires.rows, c.loop-k-test.true) in
    let wide = length-part rows place c.args.from (length c.args.first.now) c.row_from.result.now there c.requires.widths c.row_from.ensures in
    length-take-le c.loop-k.columns c.row_from.result.now (omega (arith, wide, c.loop-k.invariant.within))
    ∙ sym (length-take-le c.loop-k.columns c.args.first.now c.loop-k.invariant.within)
