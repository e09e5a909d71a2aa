use Rattle.std.proofs.Common.{◌≡◌, ℕ, ◌<◌, length, map, get_or, drop, take}
use Rattle.bi_poly.specs.Rows.{row}
use Rattle.gs_interpolate.specs.Layout.{start}
use Rattle.gs_interpolate.proofs.layout.cut.Given as goal

abbrev pub invariant-loop-length : goal.invariant-loop-length
invariant-loop-length l = record {
  rest : l.rest ≡ drop (start l.lengths l.length-index) l.vector;
  size : length l.rows.items ≡ l.length-index;
  made : (k : ℕ) → k < l.length-index
      → row (map (λ r. r.items) l.rows.items) k ≡ take (get_or l.lengths k 0) (drop (start l.lengths k) l.vector);
}
