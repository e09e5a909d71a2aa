use Rattle.std.proofs.Common.{ap, sym, ◌∙◌, arith}
use Rattle.gf256.specs.Products.{high_of, low_of}
use Rattle.gf256.proofs.ProductTables.{factor_in}
use Rattle.gf256.proofs.rows.Products.of.Goals as goal

pub invariant_of-result : goal.invariant_of-result
invariant_of-result c =
    let own = factor_in c.args.factor c.low_products.result (omega arith) c.low_products.ensures in
    (c.low_products.ensures ∙ ap low_of own, c.high_products.ensures ∙ ap high_of own)

pub returns : goal.returns
returns c = sym (factor_in c.args.factor c.low_products.result (omega arith) c.low_products.ensures)
