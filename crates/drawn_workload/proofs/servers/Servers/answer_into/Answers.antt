use Rattle.std.proofs.Common.{◌∙◌, length, sym, ap, arith}
use Rattle.drawn_workload.specs.Servers.{Servers}
use Rattle.drawn_workload.specs.Workload.{honest_payload, lie, payload}
use Rattle.drawn_workload.proofs.Workloads.{lie_among, lie_fits, length-lie, payload-honest, payload-lie}
use Rattle.drawn_workload.proofs.servers.Servers.answer_into.Goals as goal

pub returns-then-index-honest : goal.returns-then-index-honest
returns-then-index-honest g c =
    c.answer_honestly.ensures
    ∙ ap (λ (s : Servers). honest_payload s.load c.args.index) (sym c.self.view_is)
    ∙ sym (payload-honest c.self.inside.load c.args.index c.if-index-honest.true)
    ∙ ap (λ (s : Servers). payload s.load c.args.index) c.self.view_is

pub payload_at-requires : goal.payload_at-requires
payload_at-requires g c =
    let servers = ap (λ (s : Servers). s.load.servers) c.self.view_is in
    lie_fits c.self.inside.load c.deref.result.now c.from-liar.result (c.deref.ensures.value ∙ c.self.invariant.1.lies_are)
    (omega (arith, c.from-liar.ensures, c.if-index-honest.false, c.requires.server, servers, c.self.invariant.0.0.liars))

pub copy_from_slice-requires : goal.copy_from_slice-requires
copy_from_slice-requires g c =
    let w = c.self.inside.load in
    let v = c.from-liar.result in
    let servers = ap (λ (s : Servers). s.load.servers) c.self.view_is in
    let one = lie_among w c.deref.result.now v (c.deref.ensures.value ∙ c.self.invariant.1.lies_are)
    (omega (arith, c.from-liar.ensures, c.if-index-honest.false, c.requires.server, servers, c.self.invariant.0.0.liars)) in
    c.requires.room ∙ ap (λ (s : Servers). s.load.width) (sym c.self.view_is) ∙ sym (ap length (c.payload_at.ensures ∙ one) ∙ length-lie w v)

pub returns : goal.returns
returns g c =
    let w = c.self.inside.load in
    let v = c.from-liar.result in
    let servers = ap (λ (s : Servers). s.load.servers) c.self.view_is in
    let one = lie_among w c.deref.result.now v (c.deref.ensures.value ∙ c.self.invariant.1.lies_are)
    (omega (arith, c.from-liar.ensures, c.if-index-honest.false, c.requires.server, servers, c.self.invariant.0.0.liars)) in
    c.copy_from_slice.ensures.after ∙ c.payload_at.ensures ∙ one ∙ ap (lie w) c.from-liar.ensures
    ∙ sym (payload-lie w c.args.index (omega (arith, c.if-index-honest.false)))
    ∙ ap (λ (s : Servers). payload s.load c.args.index) c.self.view_is
