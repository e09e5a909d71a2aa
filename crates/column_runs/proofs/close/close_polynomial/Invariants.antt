use Rattle.std.proofs.Common.{◌+◌, ◌*◌, ◌<◌, ◌≤◌, ℕ, List, take}
use Rattle.gf256.specs.Polynomial.{IsPolynomial}
use Rattle.column_runs.specs.Close.{misses}
use Rattle.column_runs.proofs.close.close_polynomial.Given as goal

-- each of the groups so far has a point that is off whatever is close
abbrev pub invariant-loop-group : goal.invariant-loop-group
invariant-loop-group l = (psi : List ℕ) → IsPolynomial l.t psi → misses psi l.points + l.t < l.h
    → l.group ≤ misses psi (take (l.group * l.size) l.points)
