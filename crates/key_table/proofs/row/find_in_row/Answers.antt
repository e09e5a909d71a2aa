use Rattle.std.proofs.Common.{subst}
use Rattle.key_table.specs.Table.{IsRowOf}
use Rattle.key_table.specs.Looked.{IsNoRow, making}
use Rattle.key_table.proofs.row.find_in_row.Goals as goal

pub returns-in-None : goal.returns-in-None
returns-in-None c =
    let a = c.args in
    subst (λ j. IsNoRow (making a.tag.now a.size a.most a.rows) j a.row.now) c.row_of.ensures.row c.in-None.ensures

pub returns-in-Some-value_for : goal.returns-in-Some-value_for
returns-in-Some-value_for c =
    let a = c.args in
    let e = c.in-Some.ensures in (
      e.0,
      subst (λ j. IsRowOf (making a.tag.now a.size a.most a.rows) j a.row.now e.0) c.row_of.ensures.row e.1,
      c.in-Some-value_for.ensures e.0 e.1.may.each e.2,
    )

pub returns-in-None-value_for : goal.returns-in-None-value_for
returns-in-None-value_for c =
    let a = c.args in
    let e = c.in-Some.ensures in (
      e.0,
      subst (λ j. IsRowOf (making a.tag.now a.size a.most a.rows) j a.row.now e.0) c.row_of.ensures.row e.1,
      c.in-None-value_for.ensures e.0 e.1.may.each e.2,
    )
