use Rattle.std.proofs.Common.{◌≡◌, ◌≢◌, ◌<◌, ◌+◌, ℕ, List, length, map, get_or, set, below_more, All, AllPairs, sym, ap, subst, ◌∙◌, arith}
use Rattle.std.proofs.lemmas.List.{get_or_default, get_or-set_same, get_or-set_other}
use Rattle.gf256.specs.Polynomial.{val}
use Rattle.column_runs.specs.OnOne.{LieOnOne}
use Rattle.column_runs.specs.Run.{points_at, IsConstant}
use Rattle.column_runs.proofs.OnOne.{off_one}
use Rattle.column_runs.proofs.ColumnPoints.{length-rows, length-points, points_differ, constant_of}
use Rattle.algebra_tests.proofs.plain_runs.plain_run.Goals as goal

-- the constant of one column more
each_more : (Is : ℕ → ℕ → Type 0) (out : List ℕ) (n x : ℕ) → n < length out → Is n x → ((c : ℕ) → c < n → Is c (get_or out c 0))
    → (c : ℕ) → c < n + 1 → Is c (get_or (set out n x) c 0)
each_more Is out n x room here before =
    below_more (λ c. Is c (get_or (set out n x) c 0)) n
    (λ c l. subst (Is c) (sym (get_or-set_other out n c x 0 (λ e. omega (arith, l, e)))) (before c l))
    (subst (Is n) (sym (get_or-set_same out n x 0 room)) here)

pub through_first-requires-clause-enough : goal.through_first-requires-clause-enough
through_first-requires-clause-enough c =
    let rows = map (λ row. row.now) c.args.columns.now.rows.now in
    let n = length-rows c.args.columns.now.rows.now in
    let size = ap length (c.deref.ensures.value ∙ c.in_ok-points.ensures) in
    let m = length-points c.args.columns.now.xs.now rows (n ∙ c.requires.rows) (c.args.from + c.loop-column.column) in
    omega (arith, size, m, c.requires.enough)

pub through_first-requires-clause-distinct : goal.through_first-requires-clause-distinct
through_first-requires-clause-distinct c =
    let rows = map (λ row. row.now) c.args.columns.now.rows.now in
    let n = length-rows c.args.columns.now.rows.now in
    subst (AllPairs (λ p q. p.0 ≢ q.0)) (sym (c.deref.ensures.value ∙ c.in_ok-points.ensures))
    (points_differ c.args.columns.now.xs.now rows (n ∙ c.requires.rows) (c.args.from + c.loop-column.column) c.requires.distinct)

pub returns-then-not-lie_on : goal.returns-then-not-lie_on
returns-then-not-lie_on c =
    let is = c.deref-in-loop-column.ensures.value in
    let points = c.deref-in-loop-column-2.result.now in
    let same = c.deref-in-loop-column-2.ensures.value ∙ sym c.deref.ensures.value in
    record {
      within = omega arith;
      constants = c.loop-column.invariant;
      longest = λ l.
          subst (λ points. ¬ LieOnOne points c.args.columns.now.t) (c.deref-in-loop-column-2.ensures.value ∙ c.in_ok-points.ensures)
          (off_one c.deref-in-loop-column.result.now points c.args.columns.now.t c.lie_on.result c.if-not-lie_on.true c.lie_on.ensures
          (λ psi poly on. c.in_ok-through.ensures.only psi poly (subst (All (λ p. val psi p.0 ≡ p.1)) same on) ∙ sym is));
    }

pub loop-column-preserved : goal.loop-column-preserved
loop-column-preserved c =
    let phi = c.in_ok-through.through.items in
    let t = c.args.columns.now.t in
    let column = c.loop-column.column in
    let at = λ (n : ℕ). points_at c.args.columns.now.xs.now (map (λ row. row.now) c.args.columns.now.rows.now) (c.args.from + n) in
    let on = c.lie_on.ensures.0 c.if-not-lie_on.false in
    let points = c.deref-in-loop-column-2.ensures.value ∙ c.in_ok-points.ensures in
    let first = c.index.ensures ∙ get_or_default phi 0 _ 0 (let size = c.in_ok-through.ensures.polynomial.size in omega (arith, size)) in
    each_more (λ n. IsConstant (at n) t) c.loop-column.out column c.index.result.now (omega arith)
    (subst (IsConstant (at column) t) (sym first)
    (constant_of phi (at column) t c.in_ok-through.ensures.polynomial
    (subst (All (λ p. val phi p.0 ≡ p.1)) points
    (subst (λ q. All (λ p. val q p.0 ≡ p.1) c.deref-in-loop-column-2.result.now) c.deref-in-loop-column.ensures.value on))))
    c.loop-column.invariant
