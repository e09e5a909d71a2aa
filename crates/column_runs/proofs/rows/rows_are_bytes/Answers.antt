use Rattle.std.proofs.Common.{◌<◌, ◌^◌, ℕ, List, Bor, length, map, get_or, All, sym, subst, arith, below_more}
use Rattle.std.proofs.lemmas.List.{get_or-map}
use Rattle.column_runs.proofs.ColumnPoints.{length-rows}
use Rattle.column_runs.proofs.rows.rows_are_bytes.Goals as goal

pub loop-place-preserved : goal.loop-place-preserved
loop-place-preserved c = λ k d l.
    let rows = map (λ (row : Bor (List ℕ)). row.now) c.args.rows.now in
    let n = c.loop-place.place in
    let Is = λ (row : List ℕ). All (λ b. b < 256) row × (length row < 2 ^ 64) in
    let here = get_or-map (λ (row : Bor (List ℕ)). row.now) c.args.rows.now n _ d c.loop-place-test.true in
    below_more (λ k. Is (get_or rows k d)) n (λ k l. c.loop-place.invariant k d l)
    (subst Is (sym here) (c.are_bytes.ensures.bytes, c.are_bytes.ensures.size)) k l

pub returns-clause-bytes : goal.returns-clause-bytes
returns-clause-bytes c =
    λ k d l.
    let size = length-rows c.args.rows.now in
    (c.loop-place.invariant k d (omega (arith, l, size, c.loop-place-test.false))).0

pub returns-clause-sizes : goal.returns-clause-sizes
returns-clause-sizes c =
    λ k d l.
    let size = length-rows c.args.rows.now in
    (c.loop-place.invariant k d (omega (arith, l, size, c.loop-place-test.false))).1
