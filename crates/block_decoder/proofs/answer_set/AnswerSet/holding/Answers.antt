use Rattle.std.proofs.lemmas.Result.{IfOk-from_err}
use Rattle.block_decoder.proofs.answer_set.AnswerSet.holding.Goals.{then-eval-payload+in_ok-push, else-eval-payload}
use Rattle.std.proofs.Common.{◌∙◌, ap, ℕ, List, [], ◌∷◌, ◌++◌, sym, ap₂, get_or}
use Rattle.std.specs.List.{filter}
use Rattle.std.proofs.lemmas.List.{take_all}
use Rattle.block_decoder.specs.Narrowing.{holds_at}
use Rattle.block_decoder.proofs.Kept.{byte_within, kept_more, kept_same}
use Rattle.std.proofs.lemmas.Bool.{eq-eqb, ne_eqb}
use Rattle.gf256.specs.Polynomial.{val}
use Rattle.wire_frames.specs.Answer.{Answer}
use Rattle.block_decoder.proofs.answer_set.AnswerSet.holding.Goals as goal

pub returns-in_err-kept : goal.returns-in_err-kept
returns-in_err-kept c = IfOk-from_err c.from_residual.result _ c.from_residual.ensures.0

pub loop-answer-init : goal.loop-answer-init
loop-answer-init c = c.in_ok-kept.ensures

pub bounds-payload-column : goal.bounds-payload-column
bounds-payload-column c =
    byte_within c.args.column c.loop-answer.answer-index c.deref-answer-items.result.now c.args.self.now c.answer-item.result c.payload.result.now c.requires
    (c.deref-answer-items.ensures.value ∙ c.self.view_is) c.loop-answer-test.true c.answer-item.is c.payload.ensures

pub returns-in_err-push : goal.returns-in_err-push
returns-in_err-push c = IfOk-from_err c.from_residual-in_err-push.result _ c.from_residual-in_err-push.ensures.0

pub loop-answer-preserved : goal.loop-answer-preserved
loop-answer-preserved c =
    let value = ap (val c.args.polynomial.now) (sym c.index.ensures) ∙ sym c.eval.ensures in
    let byte = ap (λ (bytes : List ℕ). get_or bytes c.args.column 0) c.payload.ensures in
    elim c.if-eval-payload.branch [
      | then-eval-payload+in_ok-push w ↦
          let answer = w.new.ensures ∙ ap₂ (λ (i : ℕ) (bytes : List ℕ). record { index = i; payload = bytes }) w.index-then-eval-payload.ensures w.payload-then-eval-payload.ensures in
          kept_more (holds_at c.args.polynomial.now c.args.column) c.loop-answer.answer-index c.deref-answer-items.result.now c.answer-item.result
          c.loop-answer.kept c.if-eval-payload.kept c.loop-answer-test.true c.answer-item.is c.loop-answer.invariant
          (eq-eqb (val c.args.polynomial.now c.answer-item.result.index) (get_or c.answer-item.result.payload c.args.column 0) (value ∙ w.if-eval-payload.true ∙ byte))
          (w.kept-is ∙ w.in_ok-push.ensures ∙ ap (λ (a : Answer). c.loop-answer.kept ++ a ∷ []) answer)
      | else-eval-payload w ↦
          kept_same (holds_at c.args.polynomial.now c.args.column) c.loop-answer.answer-index c.deref-answer-items.result.now c.answer-item.result
          c.loop-answer.kept c.if-eval-payload.kept c.loop-answer-test.true c.answer-item.is c.loop-answer.invariant
          (ne_eqb (val c.args.polynomial.now c.answer-item.result.index) (get_or c.answer-item.result.payload c.args.column 0) (λ same. w.if-eval-payload.false (sym value ∙ same ∙ sym byte)))
          w.kept-is
    ]

pub returns : goal.returns
returns c =
    c.loop-answer.invariant ∙ ap (filter (holds_at c.args.polynomial.now c.args.column))
    (take_all c.loop-answer.answer-index c.deref-answer-items.result.now c.loop-answer-test.false ∙ c.deref-answer-items.ensures.value
    ∙ c.self.view_is)
