use Rattle.std.proofs.lemmas.Result.{IfOk-from_err}
use Rattle.std.proofs.Common.{◌∙◌, ap₂, ℕ, List, get_or}
use Rattle.wire_frames.specs.Answer.{Answer}
use Rattle.block_decoder.proofs.Kept.{byte_within, made_more, made_all}
use Rattle.block_decoder.proofs.answer_set.AnswerSet.points.Goals as goal

pub returns-in_err-points : goal.returns-in_err-points
returns-in_err-points c = IfOk-from_err c.from_residual.result _ c.from_residual.ensures.0

pub loop-answer-init : goal.loop-answer-init
loop-answer-init c = c.in_ok-points.ensures.items

pub bounds-payload-column : goal.bounds-payload-column
bounds-payload-column c =
    byte_within c.args.column c.loop-answer.answer-index c.deref-answer-items.result.now c.args.self.now c.answer-item.result c.payload.result.now c.requires
    (c.deref-answer-items.ensures.value ∙ c.self.view_is) c.loop-answer-test.true c.answer-item.is c.payload.ensures

pub returns-in_err-push : goal.returns-in_err-push
returns-in_err-push c = IfOk-from_err c.from_residual-in_err-push.result _ c.from_residual-in_err-push.ensures.0

pub loop-answer-preserved : goal.loop-answer-preserved
loop-answer-preserved c =
    made_more (λ (a : Answer). (a.index, get_or a.payload c.args.column 0)) c.loop-answer.answer-index c.deref-answer-items.result.now
    c.answer-item.result c.loop-answer.points.items c.push.new.self.items (c.index.result, get_or c.payload.result.now c.args.column 0)
    c.loop-answer-test.true c.answer-item.is c.loop-answer.invariant c.in_ok-push.ensures.items
    (ap₂ (λ (i : ℕ) (bytes : List ℕ). (i, get_or bytes c.args.column 0)) c.index.ensures c.payload.ensures)

pub returns : goal.returns
returns c =
    made_all (λ (a : Answer). (a.index, get_or a.payload c.args.column 0)) c.loop-answer.answer-index c.deref-answer-items.result.now
    c.args.self.now c.loop-answer.points.items (c.deref-answer-items.ensures.value ∙ c.self.view_is) c.loop-answer-test.false
    c.loop-answer.invariant
