use Rattle.std.proofs.Common.{◌+◌, refl, ap, arith}
use Rattle.std.proofs.lemmas.Bool.{false≢true}
use Rattle.std.proofs.lemmas.List.{take_all}
use Rattle.column_runs.specs.Close.{misses}
use Rattle.column_runs.proofs.Misses.{misses-off, misses-on, misses-take}
use Rattle.column_runs.proofs.close.is_close.Goals.{then-eval-y+else-misses-most, else-eval-y}
use Rattle.column_runs.proofs.close.is_close.Goals as goal

pub loop-x-init : goal.loop-x-init
unfolding misses
loop-x-init c = record { misses = refl; few = omega arith }

pub returns-then-misses-most : goal.returns-then-misses-most
returns-then-misses-most c =
    let phi = c.args.phi.now in
    let points = c.args.points.now in
    let one = misses-off phi points c.loop-x.x-index c.eval.result c.loop-x-test.true c.eval.ensures c.if-eval-y.true in
    let all = misses-take phi points (c.loop-x.x-index + 1) in
    let so_far = c.loop-x.invariant.misses in
    (λ yes. absurd (false≢true yes), λ few. absurd (omega (arith, one, all, so_far, few, c.if-misses-most.true)))

pub loop-x-preserved : goal.loop-x-preserved
loop-x-preserved c =
    let phi = c.args.phi.now in
    let points = c.args.points.now in
    let i = c.loop-x.x-index in
    let so_far = c.loop-x.invariant.misses in
    elim c.if-eval-y.branch [
      | then-eval-y+else-misses-most w ↦
          let one = misses-off phi points i c.eval.result c.loop-x-test.true c.eval.ensures w.if-eval-y.true in
          record {
            misses = omega (arith, w.misses-is, one, so_far);
            few = omega (arith, w.misses-is, w.if-misses-most.false, c.loop-x.invariant.few);
          }
      | else-eval-y w ↦
          let same = misses-on phi points i c.eval.result c.loop-x-test.true c.eval.ensures w.if-eval-y.false in
          record {
            misses = omega (arith, w.misses-is, same, so_far);
            few = omega (arith, w.misses-is, c.loop-x.invariant.few);
          }
    ]

pub returns : goal.returns
returns c =
    let points = c.args.points.now in
    let all = ap (misses c.args.phi.now) (take_all c.loop-x.x-index points c.loop-x-test.false) in
    let so_far = c.loop-x.invariant.misses in
    (λ _. omega (arith, all, so_far, c.loop-x.invariant.few), λ _. refl)
