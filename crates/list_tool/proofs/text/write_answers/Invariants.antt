use Rattle.std.proofs.Common.{take, length}
use Rattle.std.specs.Prelude.{flat_map}
use Rattle.std.specs.List.{range_with_len}
use Rattle.port_trait.specs.Number.{OUTPUT}
use Rattle.port_trait.specs.Moves.{Touches}
use Rattle.list_tool.specs.Pending.{HasPut}
use Rattle.list_tool.specs.Text.{line_at}
use Rattle.list_tool.proofs.text.write_answers.Given as goal

-- the lines of the keys before this one are put
abbrev pub invariant-places : goal.invariant-places
invariant-places g l = record {
  so_far : HasPut (flat_map (line_at l.values l.keys l.finds.answers) (take l.place (range_with_len 0 (length l.finds.answers)))) l.pending
      (g.P.Ports.world l.initial.ports) (g.P.Ports.world l.ports);
  others : Touches OUTPUT (g.P.Ports.world l.initial.ports) (g.P.Ports.world l.ports);
}
