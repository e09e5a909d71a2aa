use Rattle.std.proofs.Common.{◌∙◌, ◌*◌, length, sym, ap}
use Rattle.std.specs.List.{concat}
use Rattle.block_matrix.specs.Database.{Database}
use Rattle.block_matrix.proofs.Rows.{length-rows_of, concat-rows_of}
use Rattle.block_matrix.proofs.matrix.Matrix.bytes.Goals as goal

pub returns-clause-is : goal.returns-clause-is
returns-clause-is c =
    let m = c.self.inside in
    c.deref.ensures.value ∙ sym (concat-rows_of m.width m.rows m.bytes.items (sym m.bytes.ok.0 ∙ c.self.invariant.size))
    ∙ ap (λ (d : Database). concat d.rows) c.self.view_is

pub returns-clause-size : goal.returns-clause-size
returns-clause-size c =
    let m = c.self.inside in
    c.deref.ensures.len ∙ c.self.invariant.size
    ∙ ap (λ n. n * m.width) (sym (length-rows_of m.width m.rows m.bytes.items))
    ∙ ap (λ (d : Database). length d.rows * d.width) c.self.view_is
