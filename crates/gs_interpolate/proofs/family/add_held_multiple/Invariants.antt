use Rattle.std.proofs.Common.{◌≡◌, ◌*◌, length}
use Rattle.gf256.specs.Rows.{multiple, IsAdded}
use Rattle.gf256.specs.declared.vectors.TheConstants.{LANES}
use Rattle.gs_interpolate.proofs.family.add_held_multiple.Given as goal

abbrev pub invariant-loop-v : goal.invariant-loop-v
invariant-loop-v g l = record {
  size : length l.cell ≡ length l.initial.cell;
  added : IsAdded l.cell l.initial.cell (multiple l.factors l.own) 0 (l.v * LANES);
}
