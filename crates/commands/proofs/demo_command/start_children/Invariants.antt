use Rattle.std.proofs.Common.{◌≡◌, map, take, string_bytes}
use Rattle.commands.specs.DemoOutcome.{StartsAll}
use Rattle.commands.proofs.demo_command.start_children.Given as goal

-- the children before this one are started
abbrev pub invariant-children : goal.invariant-children
invariant-children g l = record {
  number : l.i ≡ l.words-index;
  so_far : StartsAll (map (λ w. map string_bytes w.items) (take l.words-index l.lists)) (g.P.Ports.world l.initial.ports) (g.P.Ports.world l.ports);
}
