use Rattle.std.proofs.Common.{◌∙◌, ◌<◌, ℕ, List, [], length, get_or, sym, ap, subst, arith}
use Rattle.block_matrix.specs.Database.{Database, row_at}
use Rattle.block_matrix.proofs.Rows.{length-rows_of, get_or-rows_of, row_fits}
use Rattle.block_matrix.proofs.matrix.Matrix.row.Goals as goal

pub slice_bounds-result-end : goal.slice_bounds-result-end
slice_bounds-result-end c =
    let m = c.self.inside in
    let below : c.args.j < m.rows = subst (λ n. c.args.j < n) (ap (λ (d : Database). length d.rows) (sym c.self.view_is) ∙ length-rows_of m.width m.rows m.bytes.items) c.requires in
    let fits = row_fits m.width m.rows m.bytes.items c.args.j (sym m.bytes.ok.0 ∙ c.self.invariant.size) below in
    omega (arith, fits, c.deref.ensures.len)

pub returns-clause-is : goal.returns-clause-is
returns-clause-is c =
    let m = c.self.inside in
    let below : c.args.j < m.rows = subst (λ n. c.args.j < n) (ap (λ (d : Database). length d.rows) (sym c.self.view_is) ∙ length-rows_of m.width m.rows m.bytes.items) c.requires in
    ap (λ (bytes : List ℕ). row_at m.width bytes c.args.j) c.deref.ensures.value
    ∙ sym (get_or-rows_of m.width m.rows m.bytes.items c.args.j below)
    ∙ ap (λ (d : Database). get_or d.rows c.args.j []) c.self.view_is
