use Rattle.std.proofs.Common.{◌*◌, ◌≤◌, ◌∙◌, ℕ, length, sym, ap, subst}
use Rattle.quantity_limits.specs.declared.TheConstants.{MOST_CELLS}
use Rattle.block_matrix.specs.Database.{Database}
use Rattle.block_matrix.proofs.Rows.{length-rows_of}
use Rattle.block_matrix.proofs.matrix.Matrix.width.Goals as goal

pub returns-clause-cells : goal.returns-clause-cells
returns-clause-cells c =
    let m = c.self.inside in
    subst (λ (n : ℕ). n * m.width ≤ MOST_CELLS) (sym (length-rows_of m.width m.rows m.bytes.items) ∙ ap (λ (d : Database). length d.rows) c.self.view_is) c.self.invariant.shape.few_cells
