use Rattle.std.proofs.Common.{ℕ, ◌≡◌, ◌*◌, ◌<◌, length}
use Rattle.std.specs.Simd.Lanes.{chunk}
use Rattle.bi_poly.specs.Rows.{row}
use Rattle.gf256.specs.declared.vectors.TheConstants.{LANES}
use Rattle.gs_interpolate.proofs.family.vectors_of.Given as goal

abbrev pub invariant-loop-v : goal.invariant-loop-v
invariant-loop-v g l = record {
  size : length l.vectors ≡ g.row.VECTORS;
  each : (k : ℕ) → k < l.v → row l.vectors k ≡ chunk (k * LANES) LANES l.bytes;
}
