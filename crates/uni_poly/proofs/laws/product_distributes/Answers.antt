use Rattle.uni_poly.proofs.Products.{product-add}
use Rattle.uni_poly.proofs.laws.product_distributes.Goals as goal

pub returns : goal.returns
returns c = product-add c.args.p.now c.args.q.now c.args.r.now c.args.sum.now c.requires
