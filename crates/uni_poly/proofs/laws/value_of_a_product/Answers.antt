use Rattle.uni_poly.proofs.Products.{val-product}
use Rattle.uni_poly.proofs.laws.value_of_a_product.Goals as goal

pub returns : goal.returns
returns c = val-product c.args.p.now c.args.q.now c.args.a
