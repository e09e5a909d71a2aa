use Rattle.std.proofs.Common.{◌≡◌, ◌+◌, ◌≤◌, length, sum}
use Rattle.interpolation.specs.Monomials.{conditions}
use Rattle.gs_interpolate.specs.Window.{condition_at}
use Rattle.gs_interpolate.specs.Steps.{HaveLanes}
use Rattle.gs_interpolate.specs.Basis.{with_rows}
use Rattle.gs_interpolate.proofs.Passing.{orders}
use Rattle.gs_interpolate.proofs.Keeping.{AreUnder}
use Rattle.gs_interpolate.proofs.basis.Basis.pass.Given as goal

abbrev pub invariant-rows : goal.invariant-rows
invariant-rows l = record {
  order : l.window.m ≡ l.m;
  first : l.window.a ≡ l.a;
  second : l.window.b ≡ l.b;
  lanes : l.window.lanes ≡ l.fn.self.lanes;
  kept : HaveLanes l.fn.self.lanes l.steps;
  enough : conditions 1 l.m ≤ length l.steps;
  alike : l.self ≡ with_rows l.fn.self l.fn.self.rows l.self.exponents;
  few : l.taken ≤ orders l.m l.v;
  rise : sum l.self.exponents ≤ sum l.fn.self.exponents + orders l.m l.v;
  under : AreUnder l.fn.self l.self.exponents l.steps l.taken l.window (condition_at l.window 0 l.v);
}

abbrev pub invariant-orders : goal.invariant-orders
invariant-orders l = record {
  order : l.window.m ≡ l.m;
  first : l.window.a ≡ l.a;
  second : l.window.b ≡ l.b;
  lanes : l.window.lanes ≡ l.fn.self.lanes;
  kept : HaveLanes l.fn.self.lanes l.steps;
  enough : conditions 1 l.m ≤ length l.steps;
  alike : l.self ≡ with_rows l.fn.self l.fn.self.rows l.self.exponents;
  few : l.taken ≤ orders l.m l.v + l.u;
  rise : sum l.self.exponents ≤ sum l.fn.self.exponents + (orders l.m l.v + l.u);
  under : AreUnder l.fn.self l.self.exponents l.steps l.taken l.window (condition_at l.window l.u l.v);
}
