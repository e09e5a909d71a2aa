use Rattle.std.proofs.Common.{◌≡◌}
use Rattle.program_tests.proofs.searches.asks_for.Given as goal

abbrev pub invariant-loop-row : goal.invariant-loop-row
invariant-loop-row g l = (l.search.rows ≡ 3) × (l.search.width ≡ 2) × (l.search.turn ≡ l.row-index)
