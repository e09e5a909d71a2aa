use Rattle.std.proofs.Common.{◌≡◌, ◌+◌, ◌<◌, ◌≤◌, ℕ, List, [], Bor, All, refl, drop, length-drop, length, map, get_or, take, sym, ap, ◌∙◌, arith, get_or-take, get_or-drop}
use Rattle.std.proofs.lemmas.List.{length-take-le, get_or_default}
use Rattle.gf256.specs.Field.{◌⊕◌}
use Rattle.column_runs.specs.Tile.{cell}
use Rattle.column_runs.proofs.ColumnPoints.{length-rows}
use Rattle.column_runs.proofs.DifferenceRows.{sizes-set, each-set}
use Rattle.column_runs.proofs.tile.subtract.Goals as goal

-- a row of which a part begins at a column, and how much of that there is
length-part : (rows : List (List ℕ)) (place from n : ℕ) (row : List ℕ) → place < length rows → All (λ row. from + n ≤ length row) rows → row ≡ drop from (get_or rows place []) → n ≤ length row
length-part rows place from n row there widths is =
    let wide = widths place [] there in
    let size = ap length is ∙ length-drop from (get_or rows place []) in
    omega (arith, wide, size)

pub loop-i-preserved : goal.loop-i-preserved
loop-i-preserved c =
    let i = c.loop-i.i in
    let ds = c.loop-i.differences in
    let rows = map (λ (row : Bor (List ℕ)). row.now) c.args.rows.now in
    let first = c.args.first.now in
    let from = c.args.from in
    let v = c.set_difference.new.self in
    let known : i < length ds = omega arith in
    let here = ap length (get_or_default ds i c.index-differences-i.result [] known) in
    let same : length v ≡ length (get_or ds i []) = c.set_difference.ensures.size ∙ here in
    let row : (k : ℕ) → k < length first → get_or (take (length first) c.row_from.result.now) k 0 ≡ cell rows (from + k) (i + 1) =
    λ k l. get_or-take (length first) c.row_from.result.now k 0 l ∙ ap (λ r. get_or r k 0) c.row_from.ensures ∙ get_or-drop from (get_or rows (i + 1) []) k 0 in
    record {
      sizes = λ j. sizes-set ds i v known same j ∙ c.loop-i.invariant.sizes j;
      each = λ j k l m.
          each-set ds i v known (λ j d. (k : ℕ) → k < length first → get_or d k 0 ≡ cell rows (from + k) (j + 1) ⊕ get_or first k 0)
          (λ k m. c.set_difference.ensures.each k m ∙ ap (λ x. x ⊕ get_or first k 0) (row k m))
          (λ j l k m. c.loop-i.invariant.each j k l m) j l k m;
    }

pub returns : goal.returns
returns c =
    let count = c.loop-i.auto.differences in
    record {
      sizes = c.loop-i.invariant.sizes;
      each = λ j k l m. c.loop-i.invariant.each j k (omega (arith, l, count)) m;
    }

pub loop-i-init : goal.loop-i-init
loop-i-init c =
    record {
      sizes = λ j. refl;
      each = λ j k none l. absurd (omega (arith, none));
    }

pub row_from-requires-clause-within : goal.row_from-requires-clause-within
row_from-requires-clause-within c =
    let rows = map (λ (row : Bor (List ℕ)). row.now) c.args.rows.now in
    let there : c.loop-i.i + 1 < length rows = omega (arith, length-rows c.args.rows.now, c.requires.rows, c.loop-i.auto.differences, c.loop-i-test.true) in
    let wide = c.requires.widths (c.loop-i.i + 1) [] there in
    omega (arith, wide)

pub slice_bounds-row-end : goal.slice_bounds-row-end
slice_bounds-row-end c =
    let rows = map (λ (row : Bor (List ℕ)). row.now) c.args.rows.now in
    let there : c.loop-i.i + 1 < length rows = omega (arith, length-rows c.args.rows.now, c.requires.rows, c.loop-i.auto.differences, c.loop-i-test.true) in
    let size = length-take-le (length c.args.first.now) c.row_from.result.now
    (length-part rows (c.loop-i.i + 1) c.args.from (length c.args.first.now) c.row_from.result.now there c.requires.widths c.row_from.ensures) in
    sym size
