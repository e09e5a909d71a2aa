use Rattle.std.proofs.Common.{◌+◌, ◌*◌, ◌<◌, ap, subst, sym, ◌∙◌, arith}
use Rattle.std.proofs.lemmas.Grind.{get_or_default_zero}
use Rattle.linear_solve.specs.Matrix.{entry}
use Rattle.linear_solve.proofs.Places.{place_inside}
use Rattle.linear_solve.proofs.table.Table.get.Goals as goal

pub returns : goal.returns
unfolding entry
returns c =
    let t = c.self.inside in
    let l : c.args.i < t.rows = subst (λ m. c.args.i < m.rows) (sym c.self.view_is) c.requires.row in
    let k : c.args.j < t.cols = subst (λ m. c.args.j < m.cols) (sym c.self.view_is) c.requires.col in
    let inside = place_inside c.args.i c.args.j t.rows t.cols l k in
    c.index.ensures ∙ get_or_default_zero t.cells.items (c.args.i * t.cols + c.args.j) _ (omega (arith, inside, c.self.invariant))
    ∙ ap (λ m. entry m c.args.i c.args.j) c.self.view_is
