use Rattle.std.proofs.lemmas.Result.{IfOk-from_err}
use Rattle.std.proofs.Common.{ℕ, ◌<◌, ◌≤◌, ◌∙◌, ap, sym, subst, List, [], ◌∷◌, ◌++◌}
use Rattle.std.proofs.lemmas.List.{take_all, take_more}
use Rattle.wire_frames.specs.Answer.{Answer}
use Rattle.block_decoder.specs.Agreed.{answer_at}
use Rattle.block_decoder.proofs.answers.PackedAnswers.to_set.Goals as goal

pub returns-in_err-all : goal.returns-in_err-all
returns-in_err-all c = IfOk-from_err c.from_residual.result _ c.from_residual.ensures.0

pub loop-place-init : goal.loop-place-init
loop-place-init c = c.in_ok-all.ensures

pub at-requires : goal.at-requires
at-requires c = subst (λ (n : ℕ). c.loop-place.place < n) c.len-place-end.ensures c.loop-place-test.true

pub returns-in_err-push : goal.returns-in_err-push
returns-in_err-push c = IfOk-from_err c.from_residual-in_err-push.result _ c.from_residual-in_err-push.ensures.0

pub loop-place-preserved : goal.loop-place-preserved
loop-place-preserved c =
    let all = c.args.self.now in
    let i = c.loop-place.place in
    let inside = subst (λ (n : ℕ). i < n) c.len-place-end.ensures c.loop-place-test.true in
    c.in_ok-push.ensures ∙ ap (λ (a : Answer). c.loop-place.all ++ a ∷ []) c.at.ensures ∙ ap (λ (answers : List Answer). answers ++ answer_at all i ∷ []) c.loop-place.invariant
    ∙ sym (take_more all i (record { index = 0; payload = [] }) inside)

pub returns : goal.returns
returns c = c.loop-place.invariant ∙ take_all c.loop-place.place c.args.self.now (subst (λ (n : ℕ). n ≤ c.loop-place.place) c.len-place-end.ensures c.loop-place-test.false)
