use Rattle.std.proofs.Common.{◌≡◌, ◌∙◌, ◌*◌, vec_len, subst}
use Rattle.std.specs.Prelude.{IfOk}
use Rattle.std.specs.List.{range_with_len}
use Rattle.std.proofs.lemmas.Result.{IfOk-weaker}
use Rattle.block_decoder.specs.Agreed.{answers_of}
use Rattle.block_decoder.specs.declared.answers.ServerAnswers.{ServerAnswers}
use Rattle.drawn_workload.specs.Servers.{Servers}
use Rattle.drawn_workload.specs.Workload.{all_answers}
use Rattle.drawn_workload.proofs.Workloads.{all_of, size_of}
use Rattle.drawn_workload.proofs.servers.answer_all.Goals as goal

pub returns-clause-indices : goal.returns-clause-indices
returns-clause-indices g c =
    subst (λ (s : Servers). IfOk c.answer_each.result (λ (all : ServerAnswers). all.indices.items ≡ range_with_len 1 s.load.servers)) c.in_ok-servers.ensures
    (IfOk-weaker c.answer_each.result _ _ (λ (all : ServerAnswers) held. held.indices) c.answer_each.ensures)

pub returns-clause-size : goal.returns-clause-size
returns-clause-size g c =
    subst (λ (s : Servers). IfOk c.answer_each.result (λ (all : ServerAnswers). vec_len all.payloads ≡ s.load.servers * s.load.width)) c.in_ok-servers.ensures
    (IfOk-weaker c.answer_each.result _ _ (λ (all : ServerAnswers) held. all.payloads.ok.0 ∙ size_of _ all held) c.answer_each.ensures)

pub returns-clause-answers : goal.returns-clause-answers
returns-clause-answers g c =
    subst (λ (s : Servers). IfOk c.answer_each.result (λ (all : ServerAnswers). answers_of s.load.width all.indices.items all.payloads.items ≡ all_answers s.load)) c.in_ok-servers.ensures
    (IfOk-weaker c.answer_each.result _ _ (λ (all : ServerAnswers) held. all_of _ all held) c.answer_each.ensures)
