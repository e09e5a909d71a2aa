use Rattle.std.proofs.Common.{ℕ, Fits, w32, ◌≤◌, length, map, sym, subst, arith, ◌<◌, ap, ◌∙◌, [], ◌∷◌, ◌≡◌, List, Vec, Global}
use Rattle.std.proofs.Math.Nat.{le_refl, le-add_right}
use Rattle.interpolation.specs.Monomials.{conditions, monomials}
use Rattle.column_lists.specs.declared.TheConstants.{MOST_COST}
use Rattle.column_lists.proofs.Counting.{multiplicity-in_range, degree-in_range}
use Rattle.column_lists.proofs.Listed.{listed, nodes_most}
use Rattle.std.specs.Prelude.{Bool}
use Rattle.std.specs.List.{filter}
use Rattle.std.proofs.lemmas.List.{length-map}
use Rattle.std.proofs.lemmas.Result.{IfOk-from_err}
use Rattle.column_lists.proofs.list_roots.Goals as goal

-- where some are kept, there were some
kept_some : (old new : List (Vec ℕ Global)) (test : List ℕ → Bool)
    → map (λ (r : Vec ℕ Global). r.items) new ≡ filter test (map (λ (r : Vec ℕ Global). r.items) old)
    → 0 < length new → 0 < length old
kept_some [] new test e some =
    let none = ap length e in
    let same = length-map new (λ (r : Vec ℕ Global). r.items) in
    absurd (omega (arith, none, same, some))
kept_some (x ∷ old) new test e some = omega arith

-- there is a point
some_points : (t h k : ℕ) → t < h → h ≤ k → 1 ≤ k
some_points t h k less l = omega (arith, less, l)

-- no more agree than there are servers
few_points : (h k : ℕ) → h ≤ k → k ≤ 255 → h ≤ 255
few_points h k l few = omega (arith, l, few)

-- their number fits
points_fit : (k : ℕ) → k ≤ 255 → Fits w32 k
points_fit k few = omega (arith, few)

-- the degree is smaller than their number
small_degree : (t h k : ℕ) → t < h → h ≤ k → k ≤ 255 → t ≤ 254
small_degree t h k less l few = omega (arith, less, l, few)

pub interpolate-requires-clause-multiplicity : goal.interpolate-requires-clause-multiplicity
interpolate-requires-clause-multiplicity g c =
    let plan = c.plan-plan.result in
    let r = c.requires in
    multiplicity-in_range (length c.args.points.now) c.args.t c.args.h plan.m (some_points c.args.t c.args.h _ r.redundant r.agreement) c.plan-plan.ensures.multiplicity
    (subst (λ (m : ℕ). conditions (length c.args.points.now) m ≤ MOST_COST) (sym c.plan-plan.ensures.multiplicity) r.cheap)

pub interpolate-requires-clause-degree : goal.interpolate-requires-clause-degree
interpolate-requires-clause-degree g c =
    let plan = c.plan-plan.result in
    let r = c.requires in
    degree-in_range c.args.h plan.m plan.d (few_points c.args.h _ r.agreement r.points) (interpolate-requires-clause-multiplicity g c).1 c.plan-plan.ensures.degree

pub interpolate-requires-clause-few : goal.interpolate-requires-clause-few
interpolate-requires-clause-few g c =
    subst (λ (m : ℕ). conditions (length c.args.points.now) m ≤ MOST_COST) (sym c.plan-plan.ensures.multiplicity) c.requires.cheap

pub returns-in_err-q-clause-most : goal.returns-in_err-q-clause-most
returns-in_err-q-clause-most g c = le-add_right c.args.nodes.now _

pub returns-in_err-list-clause-most : goal.returns-in_err-list-clause-most
returns-in_err-list-clause-most g c =
    let plan = c.plan-plan.result in
    nodes_most c.in_ok-q.q c.args.points.now (length c.args.points.now) plan.m c.args.t c.args.h plan.d c.args.nodes.now c.y_roots.new.nodes
    c.requires.degree c.in_ok-q.ensures c.plan-plan.ensures.degree c.plan-plan.ensures.multiplicity c.y_roots.ensures.most

pub returns-clause-exact : goal.returns-clause-exact
returns-clause-exact g c =
    listed (map (λ r. r.items) c.in_ok-list.list.items) (map (λ r. r.items) c.keep_agreeing.new.list.items) c.in_ok-q.q c.args.points.now
    c.plan-plan.result.m c.args.t c.args.h c.plan-plan.result.d
    c.coefficients_are_bytes.ensures c.in_ok-q.ensures c.plan-plan.ensures.degree c.requires.distinct c.requires.bytes c.in_ok-list.ensures.exact c.keep_agreeing.ensures

pub returns-clause-most : goal.returns-clause-most
returns-clause-most g c =
    let plan = c.plan-plan.result in
    nodes_most c.in_ok-q.q c.args.points.now (length c.args.points.now) plan.m c.args.t c.args.h plan.d c.args.nodes.now c.y_roots.new.nodes
    c.requires.degree c.in_ok-q.ensures c.plan-plan.ensures.degree c.plan-plan.ensures.multiplicity c.y_roots.ensures.most

pub returns-in_err-q-clause-rises : goal.returns-in_err-q-clause-rises
returns-in_err-q-clause-rises g c = le_refl c.args.nodes.now

pub returns-in_err-list-clause-rises : goal.returns-in_err-list-clause-rises
returns-in_err-list-clause-rises g c = c.in_err-list.ensures.rises

pub returns-clause-rises : goal.returns-clause-rises
returns-clause-rises g c = c.in_ok-list.ensures.rises

pub interpolate-requires-clause-distinct : goal.interpolate-requires-clause-distinct
interpolate-requires-clause-distinct g c = c.requires.distinct

pub y_roots-requires-clause-nonzero : goal.y_roots-requires-clause-nonzero
y_roots-requires-clause-nonzero g c = c.in_ok-q.ensures.nonzero

pub y_roots-requires-clause-degree : goal.y_roots-requires-clause-degree
y_roots-requires-clause-degree g c = small_degree c.args.t c.args.h _ c.requires.redundant c.requires.agreement c.requires.points

pub interpolate-requires-clause-weight : goal.interpolate-requires-clause-weight
interpolate-requires-clause-weight g c = (c.requires.degree, small_degree c.args.t c.args.h _ c.requires.redundant c.requires.agreement c.requires.points)

pub plan-plan-requires-clause-degree : goal.plan-plan-requires-clause-degree
plan-plan-requires-clause-degree g c = c.requires.degree

pub plan-plan-requires-clause-redundant : goal.plan-plan-requires-clause-redundant
plan-plan-requires-clause-redundant g c = c.requires.redundant

pub plan-plan-requires-clause-agreement : goal.plan-plan-requires-clause-agreement
plan-plan-requires-clause-agreement g c = c.requires.agreement

pub plan-plan-requires-clause-points : goal.plan-plan-requires-clause-points
plan-plan-requires-clause-points g c = c.requires.points

pub plan-plan-requires-clause-strong : goal.plan-plan-requires-clause-strong
plan-plan-requires-clause-strong g c = c.requires.strong

pub interpolate-requires-clause-enough : goal.interpolate-requires-clause-enough
interpolate-requires-clause-enough g c = let plan = c.plan-plan.ensures in
    subst (λ (n : ℕ). n < monomials c.args.t c.plan-plan.result.d) (plan.cost ∙ ap (conditions (length c.args.points.now)) (sym plan.multiplicity)) plan.enough

pub returns-clause-least : goal.returns-clause-least
returns-clause-least g c = λ some.
    c.in_ok-list.ensures.least (kept_some c.in_ok-list.list.items c.keep_agreeing.new.list.items _ c.keep_agreeing.ensures some)

pub overflow_cast-points : goal.overflow_cast-points
overflow_cast-points g c = points_fit (length c.args.points.now) c.requires.points

pub returns-in_err-q-clause-exact : goal.returns-in_err-q-clause-exact
returns-in_err-q-clause-exact g c = IfOk-from_err c.from_residual.result _ c.from_residual.ensures.0

pub returns-in_err-q-clause-least : goal.returns-in_err-q-clause-least
returns-in_err-q-clause-least g c = IfOk-from_err c.from_residual.result _ c.from_residual.ensures.0

pub returns-in_err-list-clause-exact : goal.returns-in_err-list-clause-exact
returns-in_err-list-clause-exact g c = IfOk-from_err c.from_residual-in_err-list.result _ c.from_residual-in_err-list.ensures.0

pub returns-in_err-list-clause-least : goal.returns-in_err-list-clause-least
returns-in_err-list-clause-least g c = IfOk-from_err c.from_residual-in_err-list.result _ c.from_residual-in_err-list.ensures.0
