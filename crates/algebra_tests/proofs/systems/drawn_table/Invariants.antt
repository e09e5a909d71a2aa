use Rattle.std.proofs.Common.{◌≡◌}
use Rattle.algebra_tests.proofs.systems.drawn_table.Given as goal

abbrev pub invariant-loop-j : goal.invariant-loop-j
invariant-loop-j l = (l.table.rows ≡ l.rows) × (l.table.cols ≡ l.cols)

abbrev pub invariant-loop-i : goal.invariant-loop-i
invariant-loop-i l = (l.table.rows ≡ l.rows) × (l.table.cols ≡ l.cols)
