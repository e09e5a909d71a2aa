use Rattle.std.proofs.Common.{◌≡◌, length}
use Rattle.gs_interpolate.specs.Family.{preceding, IsRowStep}
use Rattle.gs_interpolate.proofs.family.step_held_row.Given as goal

abbrev pub invariant-loop-i : goal.invariant-loop-i
invariant-loop-i g l = record {
  carry : l.carry ≡ preceding (length l.factors) l.p l.initial.row l.i;
  done : IsRowStep l.factors l.p l.row l.initial.row l.i;
}
