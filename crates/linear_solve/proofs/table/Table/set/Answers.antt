use Rattle.std.proofs.Common.{◌+◌, ◌*◌, ◌<◌, set, subst, sym, refl}
use Rattle.linear_solve.specs.Matrix.{Matrix, IsWithEntry}
use Rattle.linear_solve.proofs.Places.{with_entry}
use Rattle.linear_solve.proofs.table.Table.set.Goals as goal

pub returns : goal.returns
returns c =
    let t = c.self.inside in
    let l : c.args.i < t.rows = subst (λ m. c.args.i < m.rows) (sym c.self.view_is) c.requires.row in
    let k : c.args.j < t.cols = subst (λ m. c.args.j < m.cols) (sym c.self.view_is) c.requires.col in
    let new : Matrix = record { rows = t.rows; cols = t.cols; cells = set t.cells.items (c.args.i * t.cols + c.args.j) c.args.v } in
    subst (λ m. IsWithEntry new m c.args.i c.args.j c.args.v) c.self.view_is
    (with_entry t.rows t.cols t.cells.items new.cells c.args.i c.args.j c.args.v l k c.self.invariant refl)
