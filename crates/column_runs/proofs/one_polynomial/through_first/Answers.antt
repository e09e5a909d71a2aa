use Rattle.std.proofs.Common.{◌+◌, ◌≢◌, ◌≤◌, ℕ, List, [], ◌∷◌, ◌++◌, get_or, length, map, take, AllPairs, sym, ap, subst, ◌∙◌, arith}
use Rattle.std.proofs.lemmas.List.{length-map, length-take-le, map_more, take_all}
use Rattle.std.proofs.lemmas.Result.{IfOk-from_err, IfOk-weaker}
use Rattle.uni_poly.specs.Interpolation.{Interpolates}
use Rattle.column_runs.proofs.OnOne.{interpolates_some, distinct_firsts}
use Rattle.column_runs.proofs.one_polynomial.through_first.Goals as goal

pub interpolate-requires-clause-distinct : goal.interpolate-requires-clause-distinct
interpolate-requires-clause-distinct c =
    let points = c.args.points.now in
    let n = c.args.t + 1 in
    let past : length (take n points) ≤ c.loop-x.x-index = omega (arith, c.loop-x-test.false) in
    let xs = c.deref.ensures.value ∙ c.loop-x.invariant.xs ∙ ap (map (λ p. p.0)) (take_all c.loop-x.x-index (take n points) past) in
    subst (AllPairs (λ x y. x ≢ y)) (sym xs) (distinct_firsts n points c.requires.distinct)

pub returns-clause-only : goal.returns-clause-only
returns-clause-only c =
    let points = c.args.points.now in
    let n = c.args.t + 1 in
    let past : length (take n points) ≤ c.loop-x.x-index = omega (arith, c.loop-x-test.false) in
    let xs = c.deref.ensures.value ∙ c.loop-x.invariant.xs ∙ ap (map (λ p. p.0)) (take_all c.loop-x.x-index (take n points) past) in
    let ys = c.deref-2.ensures.value ∙ c.loop-x.invariant.ys ∙ ap (map (λ p. p.1)) (take_all c.loop-x.x-index (take n points) past) in
    let room : n ≤ length points = omega (arith, c.requires.enough) in
    IfOk-weaker c.interpolate.result _ _
    (λ v only psi is on.
    only psi
    (subst (λ a. Interpolates a c.deref-2.result.now psi) (sym xs)
    (subst (λ b. Interpolates (map (λ p. p.0) (take n points)) b psi) (sym ys) (interpolates_some points n room psi is.size is.bytes on))))
    c.interpolate.ensures.only

pub loop-x-init : goal.loop-x-init
loop-x-init c =
    record { xs = c.new-xs.ensures.items; ys = c.new-ys.ensures.items }

pub loop-x-preserved : goal.loop-x-preserved
loop-x-preserved c =
    let points = take (c.args.t + 1) c.args.points.now in
    let i = c.loop-x.x-index in
    record {
      xs = c.in_ok-push.ensures.items ∙ ap (λ (xs : List ℕ). xs ++ (get_or points i (0, 0)).0 ∷ []) c.loop-x.invariant.xs ∙ sym (map_more (λ (p : ℕ × ℕ). p.0) points i (0, 0) c.loop-x-test.true);
      ys = c.in_ok-push-2.ensures.items ∙ ap (λ (ys : List ℕ). ys ++ (get_or points i (0, 0)).1 ∷ []) c.loop-x.invariant.ys ∙ sym (map_more (λ (p : ℕ × ℕ). p.1) points i (0, 0) c.loop-x-test.true);
    }

pub interpolate-requires-clause-same_length : goal.interpolate-requires-clause-same_length
interpolate-requires-clause-same_length c =
    let done = take c.loop-x.x-index (take (c.args.t + 1) c.args.points.now) in
    ap length (c.deref.ensures.value ∙ c.loop-x.invariant.xs) ∙ length-map done (λ p. p.0) ∙ sym (ap length (c.deref-2.ensures.value ∙ c.loop-x.invariant.ys) ∙ length-map done (λ p. p.1))

pub returns-clause-polynomial : goal.returns-clause-polynomial
returns-clause-polynomial c =
    let points = c.args.points.now in
    let n = c.args.t + 1 in
    let past : length (take n points) ≤ c.loop-x.x-index = omega (arith, c.loop-x-test.false) in
    let xs = c.deref.ensures.value ∙ c.loop-x.invariant.xs ∙ ap (map (λ p. p.0)) (take_all c.loop-x.x-index (take n points) past) in
    let size = ap length xs ∙ length-map (take n points) (λ p. p.0) ∙ length-take-le n points (omega (arith, c.requires.enough)) in
    IfOk-weaker c.interpolate.result _ _ (λ v is. record { size = is.size ∙ size; bytes = is.bytes }) c.interpolate.ensures.through

pub returns-in_err-push-clause-only : goal.returns-in_err-push-clause-only
returns-in_err-push-clause-only c =
    IfOk-from_err c.from_residual.result _ c.from_residual.ensures.0

pub returns-in_err-push-2-clause-only : goal.returns-in_err-push-2-clause-only
returns-in_err-push-2-clause-only c =
    IfOk-from_err c.from_residual-in_err-push-2.result _ c.from_residual-in_err-push-2.ensures.0

pub returns-in_err-push-clause-polynomial : goal.returns-in_err-push-clause-polynomial
returns-in_err-push-clause-polynomial c =
    IfOk-from_err c.from_residual.result _ c.from_residual.ensures.0

pub returns-in_err-push-2-clause-polynomial : goal.returns-in_err-push-2-clause-polynomial
returns-in_err-push-2-clause-polynomial c =
    IfOk-from_err c.from_residual-in_err-push-2.result _ c.from_residual-in_err-push-2.ensures.0

pub bounds-x-items-x-index : goal.bounds-x-items-x-index
bounds-x-items-x-index c = c.loop-x-test.true

pub loop-x-smaller : goal.loop-x-smaller
loop-x-smaller c = omega (arith, c.loop-x-test.true)

pub slice_bounds-x-items-end : goal.slice_bounds-x-items-end
slice_bounds-x-items-end c =
    let first = length-take-le (c.args.t + 1) c.args.points.now (omega (arith, c.requires.enough)) in
    omega (arith, first, c.requires.enough)

pub overflow_add-x-items : goal.overflow_add-x-items
overflow_add-x-items c = omega (arith, c.ranges.t.fits)

pub interpolate-requires-clause-some : goal.interpolate-requires-clause-some
interpolate-requires-clause-some c =
    let points = c.args.points.now in
    let n = c.args.t + 1 in
    let past : length (take n points) ≤ c.loop-x.x-index = omega (arith, c.loop-x-test.false) in
    let xs = ap length (c.deref.ensures.value ∙ c.loop-x.invariant.xs ∙ ap (map (λ p. p.0)) (take_all c.loop-x.x-index (take n points) past)) ∙ length-map (take n points) (λ p. p.0) in
    let first = length-take-le n points (omega (arith, c.requires.enough)) in
    omega (arith, xs, first)
