use Rattle.std.proofs.Common.{◌≡◌, ◌∙◌, ◌+◌, ◌-◌, ℕ, sym, ap, subst, arith}
use Rattle.block_matrix.proofs.Pieces.{whole_again}
use Rattle.drawn_workload.specs.Servers.{HasAnswered, Servers}
use Rattle.drawn_workload.specs.Workload.{payload}
use Rattle.drawn_workload.proofs.Workloads.{index_next, each_next}
use Rattle.drawn_workload.proofs.servers.Servers.answer_each.Goals as goal

pub servers-preserved : goal.servers-preserved
servers-preserved g c =
    let held = c.servers.invariant in
    let next : ℕ = c.servers.place + 1 in
    let out = c.answer_into.new.out in
    let room = c.servers.room.answer in
    let whole = whole_again room.len out room.items (c.answer_into.auto.out ∙ c.deref_mut-in-servers-2.ensures.len) (sym room.ok.0) in
    record {
      begun = omega arith;
      answers = record {
        indices = index_next next _ _ held.begun held.answers.indices c.in_ok-append_answer.ensures.indices;
        payloads = each_next (payload c.args.self.now.load) next _ _ c.deref.result.now held.begun held.answers.payloads c.in_ok-append_answer.ensures.payloads (c.deref.ensures.value ∙ whole ∙ c.answer_into.ensures);
      };
      room = held.room;
    }

pub returns : goal.returns
returns g c =
    let w = c.args.self.now.load in
    let held = c.servers.invariant in
    let servers = ap (λ (s : Servers). s.load.servers) c.self.view_is in
    let all : c.servers.place + 1 - 1 ≡ w.servers = omega (arith, c.servers-test.false, c.servers.auto.place-end, servers) in
    subst (λ n. HasAnswered w n c.servers.answers) all held.answers
