use Rattle.std.proofs.Common.{◌≡◌, ◌*◌, length, map}
use Rattle.gs_interpolate.proofs.Windows.{AreValuesFolded}
use Rattle.gs_interpolate.proofs.window.Window.at.Given as goal

abbrev pub invariant-loop-j : goal.invariant-loop-j
invariant-loop-j l = record {
  size : length l.cells.items ≡ l.terms * l.size;
  first : length l.first.items ≡ l.terms * l.lanes;
  values : AreValuesFolded l.size l.terms l.lanes l.a l.b (map (λ r. r.items) l.rows) l.cells.items l.j;
}
