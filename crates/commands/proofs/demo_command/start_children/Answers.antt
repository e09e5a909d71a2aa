use Rattle.std.proofs.Common.{◌+◌, ◌∙◌, ap, map, string_bytes, subst, arith}
use Rattle.port_trait.specs.Children.{Starts}
use Rattle.commands.proofs.Children.{starts_more, starts_some}
use Rattle.commands.proofs.demo_command.start_children.Goals as goal

pub returns-in_default-clause-failed : goal.returns-in_default-clause-failed
returns-in_default-clause-failed g c =
    starts_some (λ w. map string_bytes w.items) c.args.lists.now c.children.words-index (512 + (c.children.i + 1)) (g.P.Ports.world c.args.ports.now) (g.P.Ports.world c.children.ports) (g.P.Ports.world c.start_child.new.self) (omega arith) (omega (arith, c.children.invariant.number)) c.children.invariant.so_far c.in_default.ensures.failed c.in_default.ensures.others

pub children-preserved : goal.children-preserved
children-preserved g c =
    let between = g.P.Ports.world c.children.ports in
    let new = g.P.Ports.world c.start_child.new.self in
    let words = c.deref.ensures.value ∙ ap (λ w. w.items) c.words-item.is in
    record {
      number = ap (λ n. n + 1) c.children.invariant.number;
      so_far = starts_more (λ w. map string_bytes w.items) c.args.lists.now c.children.words-index c.words-item.result _ between new c.children-test.true c.children.invariant.so_far
          (subst (λ w. Starts (map string_bytes w) between new) words c.in-Ok.ensures.ok);
    }
