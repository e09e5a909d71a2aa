use Rattle.std.proofs.Common.{◌∙◌, length, sym, ap, subst}
use Rattle.gf256.specs.Product.{IsMatrix}
use Rattle.block_matrix.specs.Database.{Database}
use Rattle.block_matrix.proofs.Rows.{length-rows_of, IsMatrix-rows_of}
use Rattle.block_matrix.proofs.matrix.Matrix.rows.Goals as goal

pub returns-clause-is : goal.returns-clause-is
returns-clause-is c =
    let m = c.self.inside in
    sym (length-rows_of m.width m.rows m.bytes.items) ∙ ap (λ (d : Database). length d.rows) c.self.view_is

pub returns-clause-matrix : goal.returns-clause-matrix
returns-clause-matrix c =
    let m = c.self.inside in
    subst (λ (d : Database). IsMatrix d.rows (length d.rows) d.width) c.self.view_is
    (rw (length-rows_of m.width m.rows m.bytes.items) (IsMatrix-rows_of m.width m.rows m.bytes.items (sym m.bytes.ok.0 ∙ c.self.invariant.size) c.self.invariant.bytes))
