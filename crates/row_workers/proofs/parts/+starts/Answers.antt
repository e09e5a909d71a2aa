use Rattle.std.proofs.Common.{◌≡◌, ◌≤◌, ◌+◌, ◌*◌, length, ap, refl, sym, subst, add-mul, arith, rules}
use Rattle.std.proofs.Math.Nat.{mul-le-mul_right}
use Rattle.row_workers.specs.Parts.{Accepts, OfParts}
use Rattle.row_workers.proofs.Workers.{joined, last}
use Rattle.row_workers.proofs.parts.+starts.Goals as goal

pub run_from-overflow_add-first : goal.run_from-overflow_add-first
run_from-overflow_add-first g t c = omega arith

pub run_from-split_at_mut-own-requires : goal.run_from-split_at_mut-own-requires
run_from-split_at_mut-own-requires g t c =
    let more : (c.args.first + 1) * c.args.size ≤ c.args.workers * c.args.size = mul-le-mul_right c.args.size (omega arith) in
    omega (arith, more, c.requires.parts)

pub run_both-overflow_add-next : goal.run_both-overflow_add-next
run_both-overflow_add-next g t c = omega arith

pub run_from-returns-then-first-workers : goal.run_from-returns-then-first-workers
run_from-returns-then-first-workers g t c =
    let end : (c.args.first + 1) * c.args.size ≡ c.args.workers * c.args.size = ap (λ k. k * c.args.size) c.if-first-workers.true in
    last (g.T.Task.leaves c.args.task.now) c.args.first c.args.workers c.args.size c.run.new.part c.if-first-workers.true
    (omega (arith, end, c.requires.parts, c.run.auto.part)) c.run.ensures

pub run_from-returns : goal.run_from-returns
run_from-returns g t c =
    joined (g.T.Task.leaves c.args.task.now) c.args.first c.args.workers c.args.size c.run_both.new.own c.run_both.new.others
    (omega (arith, c.run_both.auto.own, c.split_at_mut-own.ensures.front_len)) c.run_both.ensures.own
    (subst (λ n. OfParts (g.T.Task.leaves c.args.task.now) (c.args.first + 1) c.args.workers n c.run_both.new.others) c.split_at_mut-own.ensures.front_len c.run_both.ensures.others)

pub run_from-run-requires : goal.run_from-run-requires
run_from-run-requires g t c =
    let end : (c.args.first + 1) * c.args.size ≡ c.args.workers * c.args.size = ap (λ k. k * c.args.size) c.if-first-workers.true in
    let size : c.args.size ≡ length c.args.parts.now = omega (arith, end, c.requires.parts) in
    subst (g.T.Task.accepts c.args.task.now c.args.first) size (c.requires.accepts c.args.first c.requires.first)

pub run_from-run_both-requires : goal.run_from-run_both-requires
run_from-run_both-requires g t c κs within =
    let size = c.args.size in
    let more : (c.args.first + 1) * size ≤ c.args.workers * size = mul-le-mul_right size (omega arith) in
    let cut = c.split_at_mut-own in
    let long = sym cut.ensures.front_len in
    let own = subst (g.T.Task.accepts c.args.task.now c.args.first) long (c.requires.accepts c.args.first c.requires.first) in
    let others : length cut.result.1.now + (c.args.first + 1) * size ≡ c.args.workers * size =
    omega (arith, more, add-mul c.args.first 1 size, c.requires.parts, cut.ensures.back_len) in
    let accepts = subst (Accepts (g.T.Task.accepts c.args.task.now) c.args.workers) long c.requires.accepts in
    let room = subst (λ n. length cut.result.1.now + (c.args.first + 1) * n ≡ c.args.workers * n) long others in (
      omega arith,
      (
        within.0,
        (
          within.1,
          (
            search rules,
            (search rules, (omega arith, (own, (room, accepts)))),
          ),
        ),
      ),
    )

pub run_both-back-slice_bounds-others-end : goal.run_both-back-slice_bounds-others-end
run_both-back-slice_bounds-others-end g t c = refl

pub run_both-back-run_from-requires : goal.run_both-back-run_from-requires
run_both-back-run_from-requires g t c κs within =
    let needs = c.requires in
    (omega arith, (within.0, (within.1, (needs.0, (needs.1, (needs.2, (needs.3, needs.4)))))))

pub run_both-back-returns : goal.run_both-back-returns
run_both-back-returns g t c = c.run_from.ensures

pub fn::run_both::back+FnMut::call_mut-returns : goal.fn::run_both::back+FnMut::call_mut-returns
fn::run_both::back+FnMut::call_mut-returns g t c = c.back.ensures

pub fn::run_both::back+FnOnce::call_once-returns : goal.fn::run_both::back+FnOnce::call_once-returns
fn::run_both::back+FnOnce::call_once-returns g t c = (c.back.new.arg1, (c.back.kept-captures, c.back.ensures))

pub fn::run_both::back+FnMut::call_mut-back-requires : goal.fn::run_both::back+FnMut::call_mut-back-requires
fn::run_both::back+FnMut::call_mut-back-requires g t c κs within =
    let needs = c.requires.1.1 in
    (omega arith, (within.0, (within.1, (needs.1.0, (needs.1.1, needs.0)))))

pub fn::run_both::back+FnOnce::call_once-back-requires : goal.fn::run_both::back+FnOnce::call_once-back-requires
fn::run_both::back+FnOnce::call_once-back-requires g t c κs within =
    let needs = c.requires.1.1 in
    (omega arith, (within.0, (within.1, (needs.1.0, (needs.1.1, needs.0)))))

pub run_both-join_mut-requires-after_bounds : goal.run_both-join_mut-requires-after_bounds
run_both-join_mut-requires-after_bounds g t c κs within =
    let needs = c.requires in (
      (search rules, needs.own),
      (
        omega arith,
        (
          λ a m. m,
          (
            λ a m. m,
            ((search rules, search rules, needs.more, needs.others, needs.accepts), (search rules, search rules)),
          ),
        ),
      ),
    )
