use Rattle.std.proofs.Common.{◌≡◌, ℕ, ◌<◌, length, get_or}
use Rattle.gs_interpolate.specs.Layout.{IsEquation}
use Rattle.gs_interpolate.specs.declared.condition.Condition.{Condition}
use Rattle.gs_interpolate.proofs.elimination.equations.Given as goal

abbrev pub invariant-loop-r : goal.invariant-loop-r
invariant-loop-r l = record {
  height : l.table.rows ≡ length l.conditions;
  width : l.table.cols ≡ l.unknowns;
  equations : (r : ℕ) (c : Condition) → r < l.r → IsEquation l.table r l.lengths (get_or l.conditions r c);
}
