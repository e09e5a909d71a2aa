use Rattle.std.proofs.Common.{◌*◌, ◌≤◌}
use Rattle.std.specs.Int.{div_ceil}
use Rattle.gf256.specs.Rows.{AreLanes}
use Rattle.shamir_share.specs.Lanes.{value_from}
use Rattle.shamir_share.proofs.lanes.wide_values.Given as goal

abbrev pub invariant-parts : goal.invariant-parts
invariant-parts g l = record {
  few : l.part ≤ div_ceil l.t 16;
  values : AreLanes g.row.N l.values (value_from l.rows l.t (16 * l.part) l.products) 0;
}

abbrev pub decreases-parts : goal.decreases-parts
decreases-parts g l = l.part
