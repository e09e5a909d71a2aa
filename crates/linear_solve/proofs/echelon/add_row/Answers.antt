use Rattle.std.proofs.Common.{◌≡◌, ap, length, ◌∙◌, subst}
use Rattle.std.specs.Vec.{with_items}
use Rattle.std.proofs.lemmas.List.{with_items_is}
use Rattle.linear_solve.specs.Echelon.{columns_of, rows_of, IsReduced}
use Rattle.linear_solve.proofs.Pivots.{columns_of-push, rows_of-push}
use Rattle.linear_solve.proofs.Elimination.{taken_by}
use Rattle.linear_solve.proofs.echelon.add_row.Goals as goal

pub returns-in_ok-push : goal.returns-in_ok-push
returns-in_ok-push c =
    let ps = c.args.pivots.now.items in
    let row = c.in_ok-row.row in
    let new = c.reduce.new.row in
    let old : c.deref_mut.result.now ≡ c.args.row.now = c.deref_mut.ensures.value ∙ c.in_ok-row.ensures.items_if_clones_equal (λ x y e. e) in
    let long : length new ≡ row.len = c.reduce.auto.row ∙ c.deref_mut.ensures.len in
    let reduced = subst (λ xs. IsReduced new c.deref_mut.result.now (columns_of xs) (rows_of xs) c.in-Some.column) c.deref.ensures.value c.in-Some.ensures in
    taken_by (columns_of ps) _ (rows_of ps) _ (with_items row new).items new _ c.args.row.now c.in-Some.column
    c.requires reduced old (with_items_is row new long)
    (ap columns_of c.in_ok-push.ensures.items ∙ columns_of-push ps _)
    (ap rows_of c.in_ok-push.ensures.items ∙ rows_of-push ps _)
