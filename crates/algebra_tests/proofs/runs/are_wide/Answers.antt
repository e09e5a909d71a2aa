use Rattle.std.proofs.Common.{ℕ, List, Bor, ◌≤◌, length, map, get_or, sym, subst, below_more}
use Rattle.std.proofs.lemmas.List.{get_or-map}
use Rattle.algebra_tests.proofs.runs.are_wide.Goals as goal

pub loop-i-preserved : goal.loop-i-preserved
loop-i-preserved c = λ k d l.
    let rows = map (λ (row : Bor (List ℕ)). row.now) c.args.rows.now in
    let here = get_or-map (λ (row : Bor (List ℕ)). row.now) c.args.rows.now c.loop-i.i _ d c.loop-i-test.true in
    below_more (λ k. c.args.width ≤ length (get_or rows k d)) c.loop-i.i (λ k l. c.loop-i.invariant k d l)
    (subst (λ row. c.args.width ≤ length row) (sym here) c.if-rows-i.false) k l
