use Rattle.std.proofs.lemmas.Result.{IfOk-from_err}
use Rattle.std.proofs.Common.{◌∙◌, ap, map, ℕ, List, [], ◌∷◌, Bor}
use Rattle.std.proofs.lemmas.List.{map-append}
use Rattle.wire_frames.specs.Answer.{Answer}
use Rattle.block_decoder.proofs.Kept.{made_more, made_all}
use Rattle.block_decoder.proofs.answer_set.AnswerSet.payloads.Goals as goal

pub returns-in_err-payloads : goal.returns-in_err-payloads
returns-in_err-payloads c = IfOk-from_err c.from_residual.result _ c.from_residual.ensures.0

pub loop-answer-init : goal.loop-answer-init
loop-answer-init c = ap (map (λ (payload : Bor (List ℕ)). payload.now)) c.in_ok-payloads.ensures.items

pub returns-in_err-push : goal.returns-in_err-push
returns-in_err-push c = IfOk-from_err c.from_residual-in_err-push.result _ c.from_residual-in_err-push.ensures.0

pub loop-answer-preserved : goal.loop-answer-preserved
loop-answer-preserved c =
    let bytes = map (λ (payload : Bor (List ℕ)). payload.now) in
    let before = c.loop-answer.payloads.items in
    made_more (λ (a : Answer). a.payload) c.loop-answer.answer-index c.deref-answer-items.result.now c.answer-item.result (bytes before)
    (bytes c.push.new.self.items) c.payload.result.now c.loop-answer-test.true c.answer-item.is c.loop-answer.invariant
    (ap bytes c.in_ok-push.ensures.items ∙ map-append (λ (payload : Bor (List ℕ)). payload.now) before (c.payload.result ∷ [])) c.payload.ensures

pub returns : goal.returns
returns c =
    made_all (λ (a : Answer). a.payload) c.loop-answer.answer-index c.deref-answer-items.result.now c.args.self.now
    (map (λ (payload : Bor (List ℕ)). payload.now) c.loop-answer.payloads.items) (c.deref-answer-items.ensures.value ∙ c.self.view_is)
    c.loop-answer-test.false c.loop-answer.invariant
