use Rattle.std.proofs.Common.{◌≡◌, ◌+◌, ◌++◌, ◌∷◌, [], length, take, get_or, sym, ap, ap₂, ◌∙◌, subst, arith}
use Rattle.std.specs.List.{flat_map}
use Rattle.std.proofs.lemmas.List.{append-nil, take_all, take_more}
use Rattle.std.proofs.lemmas.List.Concat.{flat_map-append}
use Rattle.std.proofs.lemmas.Result.{IfOk-from_err}
use borrow.Author.Count.{falls}
use Rattle.gs_interpolate.specs.Conditions.{AreConditions}
use Rattle.gs_interpolate.proofs.Conditions.{of_order, below_order, at_point, of_order-next, below_order-next, all_conditions}
use Rattle.gs_interpolate.proofs.condition.conditions.Goals as goal
use Rattle.gs_interpolate.proofs.condition.conditions.Goals.{else-derivatives-test, then-derivatives-test+in_ok-push+else-u-order}

pub orders-init : goal.orders-init
unfolding below_order
orders-init c = sym (append-nil _)

pub derivatives-init : goal.derivatives-init
unfolding of_order
derivatives-init c = sym (append-nil _)

pub derivatives-preserved : goal.derivatives-preserved
derivatives-preserved c =
    let p = get_or c.args.points.now c.points.a-index (0, 0) in
    c.in_ok-push.ensures.items
    ∙ of_order-next c.orders.made.items c.derivatives.made.items p.0 p.1 c.orders.order c.derivatives.u c.derivatives.invariant

pub orders-preserved : goal.orders-preserved
orders-preserved c =
    let p = get_or c.args.points.now c.points.a-index (0, 0) in
    elim c.derivatives-test.branch [
      | else-derivatives-test w ↦ absurd (omega arith)
      | then-derivatives-test+in_ok-push+else-u-order w ↦
          let last : c.derivatives.u ≡ c.orders.order = omega arith in
          below_order-next c.points.made.items c.orders.made.items c.derivatives-test.made.items p.0 p.1 c.orders.order c.derivatives.u
          c.orders.invariant last
          (ap (λ v. v.items) w.made-is ∙ w.in_ok-push.ensures.items
          ∙ of_order-next c.orders.made.items c.derivatives.made.items p.0 p.1 c.orders.order c.derivatives.u c.derivatives.invariant)
    ]

pub returns : goal.returns
returns c =
    subst (AreConditions c.args.points.now c.args.m)
    (sym (c.points.invariant ∙ ap (flat_map (at_point c.args.m)) (take_all c.points.a-index c.args.points.now (omega arith))))
    (all_conditions c.args.m c.args.points.now)

pub points-init : goal.points-init
points-init c = c.new-made.ensures.items

pub bounds-points-a-index : goal.bounds-points-a-index
bounds-points-a-index c = c.points-test.true

pub returns-in_err-push : goal.returns-in_err-push
returns-in_err-push c = IfOk-from_err c.from_residual.result _ c.from_residual.ensures.0

pub overflow_step-u : goal.overflow_step-u
overflow_step-u c = omega arith

pub derivatives-smaller : goal.derivatives-smaller
derivatives-smaller c = falls (c.orders.order + 1) c.derivatives.u (omega arith)

pub orders-smaller : goal.orders-smaller
orders-smaller c = falls c.args.m c.orders.order c.orders-test.true

pub points-smaller : goal.points-smaller
points-smaller c = falls (length c.args.points.now) c.points.a-index c.points-test.true

pub points-preserved : goal.points-preserved
points-preserved c =
    let ps = c.args.points.now in
    let i = c.points.a-index in
    let m = c.args.m in
    let p = get_or ps i (0, 0) in
    let last : c.orders.order ≡ m = omega arith in
    c.orders.invariant
    ∙ ap₂ (λ xs n. xs ++ below_order p.0 p.1 n) c.points.invariant last
    ∙ sym
    (ap (flat_map (at_point m)) (take_more ps i (0, 0) c.points-test.true)
    ∙ flat_map-append (at_point m) (take i ps) (p ∷ [])
    ∙ ap (λ xs. flat_map (at_point m) (take i ps) ++ xs) (append-nil (at_point m p)))
