use Rattle.std.proofs.Common.{◌≡◌, ℕ, suc, ◌+◌, ◌-◌, ap, arith}
use Rattle.interpolation.specs.Monomials.{monomials_below}
use Rattle.interpolation.proofs.Counting.{monomials_below-row}
use Rattle.algebra_tests.proofs.plans.count_monomials.Goals as goal

pub loop-row-preserved : goal.loop-row-preserved
loop-row-preserved c =
    let l = c.loop-row in
    let rest : ℕ = c.args.d + 1 - (l._row + 1) in
    let rows : c.args.d + 1 - l._row ≡ suc rest = omega arith in
    let one = monomials_below-row (c.args.d + 1 - l._row) c.args.t l.left rest rows in
    let is = c.saturating_sub-left.ensures in
    let from = c.from-total.ensures in
    let next : monomials_below rest c.args.t c.saturating_sub-left.result ≡ monomials_below rest c.args.t (l.left - c.args.t) = ap (monomials_below rest c.args.t) is in
    let before = l.invariant.so_far in
    let small = l.invariant.small in
    let left = l.invariant.left in
    record {
      so_far = omega (arith, one, next, before, from);
      small = omega arith;
      left = omega arith;
    }
