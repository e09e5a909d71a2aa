use Rattle.std.proofs.Common.{◌≡◌, ℕ, ◌<◌, length}
use Rattle.bi_poly.specs.Rows.{row}
use Rattle.gs_interpolate.specs.Family.{bytes_of, AreCoefficients}
use Rattle.gs_interpolate.proofs.basis.Basis.into_lightest.Given as goal

abbrev pub invariant-loop-j : goal.invariant-loop-j
invariant-loop-j l = record {
  size : length l.rows.items ≡ l.j;
  each : (k : ℕ) → k < l.j → AreCoefficients l.self-inside.lanes l.place l.count (row (bytes_of l.self-inside.rows.items) k) (row (bytes_of l.rows.items) k);
}
