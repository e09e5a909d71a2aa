use Rattle.std.proofs.Common.{◌≡◌, length, ◌*◌, ◌≤◌}
use Rattle.port_trait.specs.Number.{DATABASE}
use Rattle.port_trait.specs.Moves.{Touches}
use Rattle.list_checks.specs.Steps.{HasChecked}
use Rattle.list_checks.proofs.checking.check_rows.Given as goal

-- the rows before this one are rows of the list's table, and are counted and hashed
abbrev pub invariant-rows : goal.invariant-rows
invariant-rows g l = record {
  room : length l.room ≡ l.claim.width;
  few : l.tally.entries ≤ l.row * 65535;
  checked : HasChecked l.claim l.row l.hasher l.tally (g.P.Ports.world l.initial.ports) (g.P.Ports.world l.ports);
  others : Touches DATABASE (g.P.Ports.world l.initial.ports) (g.P.Ports.world l.ports);
}
