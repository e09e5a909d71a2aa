use Rattle.std.proofs.Common.{◌*◌, ◌∙◌, ap, sym}
use Rattle.xor_answers.proofs.AnswerSums.{answers-are}
use Rattle.xor_answers.proofs.whole.answers_into.Goals as goal

pub returns : goal.returns
returns g c =
    answers-are c.args.bitmaps.now c.sum_in_parts.new.out c.args.matrix.now c.args.count (c.sum_in_parts.auto.out ∙ c.requires.room) c.sum_in_parts.ensures

pub sum_in_parts-requires-clause-ready : goal.sum_in_parts-requires-clause-ready
sum_in_parts-requires-clause-ready g c κs within = (c.requires.few_bitmaps, c.requires.bitmaps)

pub sum_in_parts-requires-clause-scratch : goal.sum_in_parts-requires-clause-scratch
sum_in_parts-requires-clause-scratch g c κs within = c.requires.scratch ∙ ap (λ n. c.args.workers * n) (sym c.requires.room)
