use Rattle.std.proofs.Common.{◌≡◌, ◌≢◌, ◌+◌, ◌∷◌, ◌++◌, ℕ, List, [], length, All, ap, sym, subst, ◌∙◌, arith}
use Rattle.wire_frames.specs.Answer.{Answer, block_len}
use Rattle.wire_frames.specs.Sizes.{answer_len}
use Rattle.wire_frames.specs.declared.session.SessionParams.{SessionParams}
use Rattle.block_decoder.specs.Agreed.{HasColumns}
use Rattle.block_decoder.proofs.Collected.{HasCollected, collected_none, collected_absent, collected_present, collected_all}
use Rattle.block_decoder.proofs.UsableAnswers.{columns-answers, nonzero-answers, bytes_from_fits, length-answers_from-le}
use Rattle.std.proofs.lemmas.Result.{IfOk-from_err}
use Rattle.block_decoder.proofs.judging.usable_answers.Goals as goal
use Rattle.block_decoder.proofs.judging.usable_answers.Goals.{in-Some+in_ok-push, in_default}

pub loop-place-init : goal.loop-place-init
loop-place-init c =
    subst (λ (made : List Answer). HasCollected c.args.session.now made 1) (sym c.in_ok-usable.ensures) (collected_none c.args.session.now)

pub loop-place-preserved : goal.loop-place-preserved
loop-place-preserved c =
    let session = c.args.session.now in
    let next : ℕ = c.loop-place.place + 1 in
    let before = c.loop-place.usable in
    let n = ap (λ (p : SessionParams). p.n) c.params-place-end.ensures.value in
    elim c.match-usable_payload.branch [
      | in-Some+in_ok-push w ↦
          subst (λ (made : List Answer). HasCollected session made (next + 1)) (sym (w.usable-is ∙ w.in_ok-push.ensures ∙ ap (λ (a : Answer). before ++ a ∷ []) w.new.ensures))
          (collected_present session before next w.in-Some.payload.now (omega arith) (omega (arith, c.requires.all, n)) (sym w.in-Some.ensures) c.loop-place.invariant)
      | in_default w ↦
          subst (λ (made : List Answer). HasCollected session made (next + 1)) (sym w.usable-is)
          (collected_absent session before next (omega arith) (omega (arith, c.requires.all, n)) (sym w.in_default.ensures) c.loop-place.invariant)
    ]

pub returns-clause-answers : goal.returns-clause-answers
returns-clause-answers c =
    let n = ap (λ (p : SessionParams). p.n) c.params-place-end.ensures.value in
    let end : c.loop-place.place + 1 ≡ c.args.session.now.params.n + 1 = omega (arith, n) in
    collected_all c.args.session.now c.loop-place.usable c.requires.all
    (subst (λ (next : ℕ). HasCollected c.args.session.now c.loop-place.usable next) end c.loop-place.invariant)

pub returns-clause-columns : goal.returns-clause-columns
returns-clause-columns c =
    let session = c.args.session.now in
    subst (HasColumns (block_len session.params)) (sym (returns-clause-answers c))
    (columns-answers session (omega (arith, c.record_count.ensures.few, c.params-place-end.ensures.range))
    (bytes_from_fits (answer_len session.params.count session.params.s) session.records c.record_count.ensures.fits))

pub returns-clause-nonzero : goal.returns-clause-nonzero
returns-clause-nonzero c =
    let session = c.args.session.now in
    subst (All (λ (a : Answer). a.index ≢ 0)) (sym (returns-clause-answers c))
    (nonzero-answers session (bytes_from_fits (answer_len session.params.count session.params.s) session.records c.record_count.ensures.fits))

pub returns-clause-few : goal.returns-clause-few
returns-clause-few c =
    let session = c.args.session.now in
    let few = length-answers_from-le 1 session.params session.records in
    let is = ap length (returns-clause-answers c) in
    omega (arith, few, is, c.requires.all)

pub returns-in_err-usable-clause-answers : goal.returns-in_err-usable-clause-answers
returns-in_err-usable-clause-answers c = IfOk-from_err c.from_residual.result _ c.from_residual.ensures.0

pub returns-in_err-usable-clause-columns : goal.returns-in_err-usable-clause-columns
returns-in_err-usable-clause-columns c = IfOk-from_err c.from_residual.result _ c.from_residual.ensures.0

pub returns-in_err-usable-clause-nonzero : goal.returns-in_err-usable-clause-nonzero
returns-in_err-usable-clause-nonzero c = IfOk-from_err c.from_residual.result _ c.from_residual.ensures.0

pub returns-in_err-usable-clause-few : goal.returns-in_err-usable-clause-few
returns-in_err-usable-clause-few c = IfOk-from_err c.from_residual.result _ c.from_residual.ensures.0

pub returns-in_err-push-clause-answers : goal.returns-in_err-push-clause-answers
returns-in_err-push-clause-answers c = IfOk-from_err c.from_residual-in_err-push.result _ c.from_residual-in_err-push.ensures.0

pub returns-in_err-push-clause-columns : goal.returns-in_err-push-clause-columns
returns-in_err-push-clause-columns c = IfOk-from_err c.from_residual-in_err-push.result _ c.from_residual-in_err-push.ensures.0

pub returns-in_err-push-clause-nonzero : goal.returns-in_err-push-clause-nonzero
returns-in_err-push-clause-nonzero c = IfOk-from_err c.from_residual-in_err-push.result _ c.from_residual-in_err-push.ensures.0

pub returns-in_err-push-clause-few : goal.returns-in_err-push-clause-few
returns-in_err-push-clause-few c = IfOk-from_err c.from_residual-in_err-push.result _ c.from_residual-in_err-push.ensures.0

pub overflow_add-index : goal.overflow_add-index
overflow_add-index c =
    let n = ap (λ (p : SessionParams). p.n) c.params-place-end.ensures.value in
    omega (arith, c.loop-place-test.true, n, c.params-place-end.ensures.range.few_servers)

pub usable_payload-requires-clause-first : goal.usable_payload-requires-clause-first
usable_payload-requires-clause-first c = omega arith

pub usable_payload-requires-clause-last : goal.usable_payload-requires-clause-last
usable_payload-requires-clause-last c =
    let n = ap (λ (p : SessionParams). p.n) c.params-place-end.ensures.value in
    omega (arith, c.loop-place-test.true, n, c.requires.all)
