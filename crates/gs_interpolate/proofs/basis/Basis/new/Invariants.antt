use Rattle.std.proofs.Common.{◌≡◌, ℕ, ◌<◌, length, map}
use Rattle.bi_poly.specs.Rows.{row}
use Rattle.gs_interpolate.specs.Basis.{IsPowerRow}
use Rattle.gs_interpolate.proofs.basis.Basis.new.Given as goal

abbrev pub invariant-loop-j : goal.invariant-loop-j
invariant-loop-j l = record {
  size : length l.rows.items ≡ l.j;
  each : (k : ℕ) → k < l.j → IsPowerRow l.lanes (row (map (λ r. r.items) l.rows.items) k) k;
}
