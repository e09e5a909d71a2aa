use Rattle.std.proofs.Common.{◌++◌, take}
use Rattle.std.specs.Prelude.{flat_map}
use Rattle.port_trait.specs.Number.{OUTPUT}
use Rattle.port_trait.specs.Moves.{Touches}
use Rattle.list_tool.specs.Pending.{HasPut}
use Rattle.list_tool.proofs.pending.Pending.put_all.Given as goal

-- the texts before this one are put
abbrev pub invariant-loop-text : goal.invariant-loop-text
invariant-loop-text g l = record {
  so_far : HasPut (l.initial.self ++ flat_map (λ t. t.now) (take l.text-index l.texts)) l.self
      (g.P.Ports.world l.initial.ports) (g.P.Ports.world l.ports);
  others : Touches OUTPUT (g.P.Ports.world l.initial.ports) (g.P.Ports.world l.ports);
}
