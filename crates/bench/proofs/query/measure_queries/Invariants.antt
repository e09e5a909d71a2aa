use Rattle.std.proofs.Common.{◌≡◌, ◌*◌, length}
use Rattle.bench.proofs.query.measure_queries.Given as goal

abbrev pub invariant-loop : goal.invariant-loop
invariant-loop g l = (length l.copy.items ≡ l.rows * l.degree) × (length l.out.items ≡ l.rows)
