use Rattle.std.proofs.Common.{◌≡◌, ◌≢◌, ◌∙◌, ◌*◌, ℕ, length, sym, ap, ap₂, subst, arith}
use Rattle.std.specs.List.{All}
use Rattle.std.specs.List.Sorted.{IsStrictlyIncreasing}
use Rattle.std.proofs.lemmas.List.FromFn.{length-range_with_len}
use Rattle.std.proofs.lemmas.Result.{IfOk-weaker}
use Rattle.block_decoder.specs.Agreed.{answers_of}
use Rattle.block_decoder.specs.declared.verdict.Verdict.{Verdict}
use Rattle.std.specs.Prelude.{IfOk}
use Rattle.drawn_workload.specs.WorkloadOrder.{WorkloadOrder}
use Rattle.drawn_workload.specs.Judged.{IsDecidedOn}
use Rattle.drawn_workload.specs.Workload.{all_answers}
use Rattle.drawn_workload.proofs.Workloads.{ascending-range, decided_by, nonzero-range}
use Rattle.drawn_workload.proofs.judging.judge_uncounted.Goals as goal

pub decide-requires-clause-ascending : goal.decide-requires-clause-ascending
decide-requires-clause-ascending g c =
    subst IsStrictlyIncreasing (sym (c.deref.ensures.value ∙ c.in_ok-answers.ensures.indices)) (ascending-range 1 c.args.order.now.load.servers)

pub decide-requires-clause-nonzero : goal.decide-requires-clause-nonzero
decide-requires-clause-nonzero g c =
    subst (All (λ (i : ℕ). i ≢ 0)) (sym (c.deref.ensures.value ∙ c.in_ok-answers.ensures.indices)) (nonzero-range 1 c.args.order.now.load.servers (omega arith))

pub decide-requires-clause-few : goal.decide-requires-clause-few
decide-requires-clause-few g c =
    let size = ap length (c.deref.ensures.value ∙ c.in_ok-answers.ensures.indices) ∙ length-range_with_len 1 c.args.order.now.load.servers in
    let servers = ap (λ (o : WorkloadOrder). o.load.servers) c.order.view_is in
    omega (arith, size, servers, c.order.invariant.0.numbers.few_servers)

-- so many bytes for each of so many
fits : (bytes items count servers width inside : ℕ) → bytes ≡ items → items ≡ servers * width → count ≡ servers → inside ≡ width → bytes ≡ count * inside
fits bytes items count servers width inside same all each is = same ∙ all ∙ ap₂ ◌*◌ (sym each) (sym is)

pub decide-requires-clause-fit : goal.decide-requires-clause-fit
decide-requires-clause-fit g c =
    let size = ap length (c.deref.ensures.value ∙ c.in_ok-answers.ensures.indices) ∙ length-range_with_len 1 c.args.order.now.load.servers in
    fits _ _ _ _ _ _ c.deref-2.ensures.len c.in_ok-answers.ensures.size size (ap (λ (o : WorkloadOrder). o.load.width) c.order.view_is)

pub returns : goal.returns
returns g c =
    let w = c.order.inside.load in
    let same = ap₂ (answers_of c.args.order.now.load.width) c.deref.ensures.value c.deref-2.ensures.value ∙ c.in_ok-answers.ensures.answers in
    let inside = subst (λ (o : WorkloadOrder). answers_of o.load.width c.deref.result.now c.deref-2.result.now ≡ all_answers o.load) (sym c.order.view_is) same in
    subst (λ (o : WorkloadOrder). IfOk c.decide.result (IsDecidedOn o.load)) c.order.view_is
    (IfOk-weaker c.decide.result _ _ (λ (v : Verdict) is. decided_by w v _ _ _ inside c.from.ensures c.from-2.ensures is) c.decide.ensures.verdict)
