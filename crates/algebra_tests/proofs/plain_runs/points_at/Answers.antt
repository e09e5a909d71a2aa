use Rattle.std.proofs.Common.{◌≡◌, ◌<◌, ◌+◌, ◌++◌, ◌∷◌, ℕ, List, [], Bor, length, map, get_or, below_more, sym, ap, ◌∙◌, arith, length-append, length-drop}
use Rattle.std.proofs.lemmas.List.{get_or_append_left, get_or-drop}
use Rattle.std.proofs.lemmas.Result.{IfOk-from_err}
use Rattle.std.proofs.Math.Seq.{get_or-append_seam}
use Rattle.column_runs.proofs.ColumnPoints.{are_points, length-rows}
use Rattle.algebra_tests.proofs.plain_runs.points_at.Goals as goal

-- a point more
each_more : (made more : List (ℕ × ℕ)) (n x y : ℕ) (f : ℕ → ℕ × ℕ) → length made ≡ n → more ≡ made ++ (x, y) ∷ [] → (x, y) ≡ f n
    → ((k : ℕ) (d : ℕ × ℕ) → k < n → get_or made k d ≡ f k) → (k : ℕ) (d : ℕ × ℕ) → k < n + 1 → get_or more k d ≡ f k
each_more made more n x y f size e here before = λ k d l.
    below_more (λ k. get_or more k d ≡ f k) n
    (λ k l. ap (λ ps. get_or ps k d) e ∙ get_or_append_left made ((x, y) ∷ []) d k (omega (arith, l, size)) ∙ before k d l)
    (ap (λ ps. get_or ps n d) e ∙ ap (λ j. get_or (made ++ (x, y) ∷ []) j d) (sym size) ∙ get_or-append_seam made (x, y) [] d ∙ here) k l

pub loop-place-preserved : goal.loop-place-preserved
loop-place-preserved c =
    let xs = c.args.xs.now in
    let rows = map (λ row. row.now) c.args.rows.now in
    let made = c.loop-place.points.items in
    let n = c.loop-place.place in
    let column = c.args.column in
    let from = c.args.from in
    let row = get_or rows n [] in
    let y = get_or c.row_from.result.now column 0 in
    record {
      size = ap length c.in_ok-push.ensures.items ∙ length-append made ((get_or xs n 0, y) ∷ []) ∙ ap (λ n. n + 1) c.loop-place.invariant.size;
      each =
          each_more made c.push.new.self.items n (get_or xs n 0) y (λ k. (get_or xs k 0, get_or (get_or rows k []) (from + column) 0))
          c.loop-place.invariant.size c.in_ok-push.ensures.items
          (ap (λ row. (get_or xs n 0, get_or row column 0)) c.row_from.ensures ∙ ap (λ y. (get_or xs n 0, y)) (get_or-drop from row column 0)) c.loop-place.invariant.each;
    }

pub returns : goal.returns
returns c =
    let xs = c.args.xs.now in
    let end : c.loop-place.place ≡ length xs = omega arith in
    are_points xs (map (λ row. row.now) c.args.rows.now) (length-rows c.args.rows.now ∙ c.requires.rows) (c.args.from + c.args.column) c.loop-place.points.items
    (c.loop-place.invariant.size ∙ end) (λ k d l. c.loop-place.invariant.each k d (omega (arith, l, end)))

pub row_from-requires-clause-within : goal.row_from-requires-clause-within
row_from-requires-clause-within c =
    let rows = map (λ (row : Bor (List ℕ)). row.now) c.args.rows.now in
    let place = c.loop-place.place in
    let there : place < length rows = omega (arith, length-rows c.args.rows.now, c.requires.rows, c.loop-place-test.true) in
    let wide = c.requires.widths place [] there in
    omega (arith, wide)

pub bounds-row_from-column : goal.bounds-row_from-column
bounds-row_from-column c =
    let rows = map (λ (row : Bor (List ℕ)). row.now) c.args.rows.now in
    let place = c.loop-place.place in
    let there : place < length rows = omega (arith, length-rows c.args.rows.now, c.requires.rows, c.loop-place-test.true) in
    let wide = c.requires.widths place [] there in
    let size = ap length c.row_from.ensures ∙ length-drop c.args.from (get_or rows place []) in
    omega (arith, wide, size)

pub loop-place-init : goal.loop-place-init
loop-place-init c =
    record {
      size = ap length c.in_ok-points.ensures.items;
      each = λ k d none. absurd (omega (arith, none));
    }

pub returns-in_err-points : goal.returns-in_err-points
returns-in_err-points c =
    IfOk-from_err c.from_residual.result _ c.from_residual.ensures.0

pub returns-in_err-push : goal.returns-in_err-push
returns-in_err-push c =
    IfOk-from_err c.from_residual-in_err-push.result _ c.from_residual-in_err-push.ensures.0

pub bounds-xs-place : goal.bounds-xs-place
bounds-xs-place c = c.loop-place-test.true

pub loop-place-smaller : goal.loop-place-smaller
loop-place-smaller c = omega (arith, c.loop-place-test.true)

pub row_from-requires-clause-place : goal.row_from-requires-clause-place
row_from-requires-clause-place c = omega (arith, c.requires.rows, c.loop-place-test.true)
