use Rattle.std.proofs.Common.{◌∙◌, lit<}
use Rattle.server_product.proofs.QuerySums.{one-product}
use Rattle.server_product.proofs.whole.product_into.Goals as goal

pub returns : goal.returns
returns g c =
    one-product c.args.q.now c.products_into.new.out c.args.matrix.now.rows c.args.matrix.now.width (c.products_into.auto.out ∙ c.requires.room) c.requires.query
    (c.products_into.ensures 0 (lit< tt))
