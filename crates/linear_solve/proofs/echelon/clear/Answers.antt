use Rattle.std.proofs.Common.{◌<◌, length, get_or, ap, sym, subst, ◌∙◌, below_more, arith}
use Rattle.linear_solve.specs.Kernel.{component}
use Rattle.linear_solve.specs.Echelon.{columns_of, rows_of, row_at, IsMultipleAdded}
use Rattle.linear_solve.proofs.Pivots.{column-is, row-is, length-rows_of}
use Rattle.linear_solve.proofs.Elimination.{stays_cleared, gets_cleared, same_inner}
use Rattle.linear_solve.proofs.echelon.clear.Goals as goal

pub bounds-row-pivot : goal.bounds-row-pivot
bounds-row-pivot c =
    let t = c.loop-pivot.pivot-index in
    let here : t < length (rows_of c.args.pivots.now) = omega (arith, length-rows_of c.args.pivots.now, c.loop-pivot-test.true) in
    let inside = c.requires.inside t here in
    let same = column-is c.args.pivots.now t c.pivot-item.result c.loop-pivot-test.true c.pivot-item.is in
    omega (arith, inside, same, c.loop-pivot.auto.row)

pub add_scaled_row-requires : goal.add_scaled_row-requires
add_scaled_row-requires c =
    let t = c.loop-pivot.pivot-index in
    let here : t < length (rows_of c.args.pivots.now) = omega (arith, length-rows_of c.args.pivots.now, c.loop-pivot-test.true) in
    let e = row-is c.args.pivots.now t c.pivot-item.result c.loop-pivot-test.true c.pivot-item.is in
    ap length (c.deref.ensures.value ∙ e) ∙ c.requires.wide t here ∙ sym c.loop-pivot.auto.row

pub loop-pivot-preserved : goal.loop-pivot-preserved
unfolding component
loop-pivot-preserved c =
    let t = c.loop-pivot.pivot-index in
    let ps = c.args.pivots.now in
    let cs = columns_of ps in
    let rs = rows_of ps in
    let here : t < length rs = omega (arith, length-rows_of ps, c.loop-pivot-test.true) in
    let old = c.loop-pivot.row in
    let new = c.add_scaled_row.new.acc in
    let row = row_at rs t in
    let e = c.deref.ensures.value ∙ row-is ps t c.pivot-item.result c.loop-pivot-test.true c.pivot-item.is in
    let column = column-is ps t c.pivot-item.result c.loop-pivot-test.true c.pivot-item.is in
    let added : IsMultipleAdded new old row (get_or old c.pivot-item.result.column 0) = subst (λ o. IsMultipleAdded new old o (get_or old c.pivot-item.result.column 0)) e c.add_scaled_row.ensures in
    let how : IsMultipleAdded new old row (component old (get_or cs t 0)) = subst (λ k. IsMultipleAdded new old row (component old k)) column added in
    record {
      same = λ v h. same_inner new old row v (component old (get_or cs t 0)) (length c.args.row.now) how (h t here) ∙ c.loop-pivot.invariant.same v h;
      cleared = below_more _ _
          (λ s l. stays_cleared new old row (component old (get_or cs t 0)) (get_or cs s 0) how (c.loop-pivot.invariant.cleared s l) (c.requires.none s t l here))
          (gets_cleared new old row (get_or cs t 0) how (c.requires.one t here) (c.type_inv.row (get_or cs t 0)).fits);
    }
