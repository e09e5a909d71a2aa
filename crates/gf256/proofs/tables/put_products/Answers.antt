use Rattle.std.proofs.Common.{refl, arith}
use Rattle.gf256.proofs.ProductTables.{products-more}
use Rattle.gf256.proofs.tables.put_products.Goals as goal

pub returns : goal.returns
returns c =
    products-more c.args.table.now c.times.result c.times-high.result _ _ c.args.factor c.of-products.result _ (omega arith) (omega arith) c.of-products.ensures
    refl refl c.times.ensures c.times-high.ensures c.requires
