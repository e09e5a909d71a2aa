use Rattle.std.proofs.Common.{◌≡◌, ℕ, ◌-◌, ◌<◌, ◌≤◌, length}
use Rattle.gs_interpolate.specs.Family.{IsRowStep}
use Rattle.gs_interpolate.specs.Window.{window_row}
use Rattle.gs_interpolate.proofs.window.step_cells.Given as goal

abbrev pub invariant-loop-w : goal.invariant-loop-w
invariant-loop-w l =
    let n = length l.factors in
    record {
      each : (k : ℕ) → l.v ≤ k → k < l.w → k < l.m → IsRowStep l.factors l.p (window_row n l.m l.cells k) (window_row n l.m l.initial.cells k) (l.m - k);
      others : (k : ℕ) → k < l.v → k < l.m → window_row n l.m l.cells k ≡ window_row n l.m l.initial.cells k;
      rest : (k : ℕ) → l.w ≤ k → k < l.m → window_row n l.m l.cells k ≡ window_row n l.m l.initial.cells k;
    }
