use Rattle.std.proofs.Common.{◌≡◌, ◌+◌, ℕ, suc, ◌<◌, ◌≤◌, get_or, drop, length}
use Rattle.gf256.specs.Polynomial.{val}
use Rattle.uni_poly.proofs.divide_by_linear.Given as goal

abbrev pub invariant-loop-i : goal.invariant-loop-i
invariant-loop-i l = record {
  rest : l.rest ≡ val (drop l.i l.p) l.root;
  done : (k : ℕ) → l.i ≤ suc k → suc k < length l.p → get_or l.quotient.items k 0 ≡ val (drop (suc k) l.p) l.root;
  long : length l.quotient.items + 1 ≡ length l.p;
  from_one : 1 ≤ l.i;
}
