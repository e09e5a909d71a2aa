use Rattle.std.proofs.Common.{ℕ, ◌<◌, ◌≤◌, length}
use Rattle.bi_poly.specs.Rows.{row}
use Rattle.bi_poly.proofs.BiPoly.width.Given as goal

abbrev pub invariant-loop-j : goal.invariant-loop-j
invariant-loop-j l = record {
  enough : (k : ℕ) → k < l.j → length (row l.self k) ≤ l.width;
  least : (n : ℕ) → ((k : ℕ) → length (row l.self k) ≤ n) → l.width ≤ n;
}
