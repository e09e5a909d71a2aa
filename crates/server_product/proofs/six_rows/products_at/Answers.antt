use Rattle.std.proofs.Common.{map, ap, subst, ◌∙◌}
use Rattle.gf256.specs.Field.{◌⊗◌}
use Rattle.gf256.specs.Rows.{multiple, AreLanes}
use Rattle.gf256.proofs.RowSums.{times-lanes}
use Rattle.server_product.proofs.six_rows.products_at.Goals as goal

pub returns : goal.returns
returns g c =
    let row = c.args.scaled.row.now in
    let times = c.times.ensures ∙ ap (map (λ x. c.args.products.now ⊗ x)) c.lanes_of.ensures in
    subst (λ f. AreLanes g.row.N c.times.result (multiple row f) c.args.at) c.requires.factor
    (times-lanes g.row.N row c.times.result c.args.products.now c.args.at c.requires.within times)
