use Rattle.std.proofs.Common.{◌≡◌, length, map}
use Rattle.std.specs.List.{range_with_len}
use Rattle.bi_poly.specs.Rows.{IsWidth}
use Rattle.bi_poly.specs.Substitution.{shifted_row}
use Rattle.bi_poly.proofs.BiPoly.shift_root.Given as goal

abbrev pub invariant-loop-j : goal.invariant-loop-j
invariant-loop-j l = record {
  width : IsWidth l.self (length l.sums.items);
  rows : map (λ r. r.items) l.rows.items ≡ map (shifted_row l.self (length l.sums.items) l.gamma) (range_with_len 0 l.j);
}
