use Rattle.std.proofs.Common.{length, sym, ap, ◌∙◌, arith}
use Rattle.client_calls.proofs.FirstAnswers.{first_of-none, first_of-all, count-one, count-no}
use Rattle.client_calls.proofs.liars.usable_count.Goals as goal
use Rattle.client_calls.proofs.liars.usable_count.Goals.{in-Some, in_default}

pub loop-place-init : goal.loop-place-init
loop-place-init c = record { counted = sym (ap length (first_of-none c.args.session.now)); few = omega arith }

pub loop-place-preserved : goal.loop-place-preserved
loop-place-preserved c =
    let session = c.args.session.now in
    let place = c.loop-place.place in
    let before = c.loop-place.invariant in
    let inside = c.loop-place-test.true in
    let all = c.record_count-place-end.ensures.count in
    elim c.match-usable_payload.branch [
      | in-Some w ↦
          let more = count-one session place w.in-Some._payload.now (omega (arith, inside, all)) w.in-Some.ensures in
          let was = before.counted in let few = before.few in let is = w.count-is in
          record { counted = omega (arith, more, was, is); few = omega (arith, few, is) }
      | in_default w ↦
          let more = count-no session place (omega (arith, inside, all)) w.in_default.ensures in
          let was = before.counted in let few = before.few in let is = w.count-is in
          record { counted = omega (arith, more, was, is); few = omega (arith, few, is) }
    ]

pub returns-clause-count : goal.returns-clause-count
returns-clause-count c =
    let all = c.record_count-place-end.ensures.count in
    let end = c.loop-place-test.false in
    c.loop-place.invariant.counted ∙ ap length (first_of-all c.args.session.now c.loop-place.place (omega (arith, end, all)))

pub overflow_add-place : goal.overflow_add-place
overflow_add-place c = omega (arith, c.loop-place-test.true, c.record_count-place-end.ensures.count, c.record_count-place-end.ensures.few, c.params.ensures.range.few_servers)

pub overflow_cast-place : goal.overflow_cast-place
overflow_cast-place c = omega (arith, c.loop-place-test.true, c.record_count-place-end.ensures.count, c.record_count-place-end.ensures.few, c.params.ensures.range.few_servers)

pub usable_payload-requires-clause-first : goal.usable_payload-requires-clause-first
usable_payload-requires-clause-first c = omega arith

pub usable_payload-requires-clause-last : goal.usable_payload-requires-clause-last
usable_payload-requires-clause-last c = omega (arith, c.loop-place-test.true, c.record_count-place-end.ensures.count)

pub overflow_add-count : goal.overflow_add-count
overflow_add-count c =
    let before = c.loop-place.invariant.few in
    omega (arith, before, c.loop-place-test.true, c.record_count-place-end.ensures.count, c.record_count-place-end.ensures.few, c.params.ensures.range.few_servers)

pub returns-clause-few : goal.returns-clause-few
returns-clause-few c =
    let counted = c.loop-place.invariant.few in
    omega (arith, counted, c.record_count-place-end.ensures.count, c.record_count-place-end.ensures.few)
