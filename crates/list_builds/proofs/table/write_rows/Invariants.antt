use Rattle.std.proofs.Common.{◌≡◌, length}
use Rattle.std.specs.List.{concat}
use Rattle.port_trait.specs.Number.{RECORD}
use Rattle.port_trait.specs.Moves.{Touches, gave}
use Rattle.sha2.specs.Hashers.{Holds256}
use Rattle.key_table.specs.Rows.{row_bytes}
use Rattle.list_builds.specs.TableBytes.{first_rows}
use Rattle.list_builds.proofs.table.write_rows.Given as goal

-- the rows before this one are given, and hashed
abbrev pub invariant-rows : goal.invariant-rows
invariant-rows g l = record {
  table : l.table ≡ record l.initial.table { next = l._row };
  room : length l.row ≡ length l.initial.row;
  so_far : (g.P.Ports.world l.ports).at RECORD
      ≡ gave (concat (first_rows (row_bytes l.initial.table) l._row)) ((g.P.Ports.world l.initial.ports).at RECORD);
  hashed : Holds256 l.hasher (concat (first_rows (row_bytes l.initial.table) l._row));
  others : Touches RECORD (g.P.Ports.world l.initial.ports) (g.P.Ports.world l.ports);
}
