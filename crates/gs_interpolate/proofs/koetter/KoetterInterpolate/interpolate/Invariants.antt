use Rattle.std.proofs.Common.{◌≡◌, ℕ, ◌<◌, ◌≤◌, length, sum, get_or}
use Rattle.interpolation.specs.Monomials.{conditions}
use Rattle.gs_interpolate.specs.Steps.{HaveLanes}
use Rattle.gs_interpolate.specs.Basis.{HaveZero, IsBasis}
use Rattle.gs_interpolate.proofs.koetter.KoetterInterpolate.interpolate.Given as goal

abbrev pub invariant-loop-a : goal.invariant-loop-a
invariant-loop-a l = record {
  weight : l.basis.t ≡ l.t;
  degree : l.basis.d ≡ l.d;
  size : length l.basis.rows ≡ length l.lengths.items;
  basis : IsBasis l.basis;
  zeros : (k : ℕ) → k < l.a-index → HaveZero l.basis (get_or l.points k (0, 0)).0 (get_or l.points k (0, 0)).1 l.m;
  lanes : l.window.lanes ≡ l.basis.lanes;
  order : l.window.m ≡ l.m;
  steps : HaveLanes l.basis.lanes l.steps.items;
  enough : length l.steps.items ≡ conditions 1 l.m;
  few : sum l.basis.exponents ≤ conditions l.a-index l.m;
}
