use Rattle.std.proofs.Common.{ℕ, ◌<◌}
use Rattle.bi_poly.specs.Rows.{cell}
use Rattle.bi_poly.proofs.laws.coefficients_are_bytes.Given as goal

abbrev pub invariant-loop-j : goal.invariant-loop-j
invariant-loop-j l = (k i : ℕ) → k < l.j → cell l.q k i < 256
