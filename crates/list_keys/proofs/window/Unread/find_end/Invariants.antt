use Rattle.std.proofs.Common.{◌≡◌, ◌≤◌, ◌+◌, ◌-◌, ℕ, cond, List, length, take}
use Rattle.std.specs.List.{position_or_len}
use Rattle.port_trait.specs.World.{World}
use Rattle.port_trait.specs.Number.{INPUT}
use Rattle.port_trait.specs.Moves.{Touches}
use Rattle.list_keys.specs.declared.TheConstants.{LONGEST_LINE}
use Rattle.list_keys.specs.Lines.{is_newline}
use Rattle.list_keys.specs.Window.{HasGiven}
use Rattle.list_keys.proofs.window.Unread.find_end.Given as goal

abbrev pub invariant-looking : goal.invariant-looking
invariant-looking g l = record {
  within : l.looked ≤ length l.self.rest;
  none : position_or_len is_newline (take l.looked l.self.rest) ≡ l.looked;
  so_far : (given : List (List ℕ)) (start : World) → HasGiven l.initial.self given start (g.P.Ports.world l.initial.ports)
      → HasGiven l.self given start (g.P.Ports.world l.ports);
  others : Touches INPUT (g.P.Ports.world l.initial.ports) (g.P.Ports.world l.ports);
}

abbrev pub decreases-looking : goal.decreases-looking
decreases-looking g l = cond l.self.ended 0 (LONGEST_LINE + 2 - length l.self.rest)
