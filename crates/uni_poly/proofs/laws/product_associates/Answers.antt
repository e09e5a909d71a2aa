use Rattle.uni_poly.proofs.Products.{product_assoc}
use Rattle.uni_poly.proofs.laws.product_associates.Goals as goal

pub returns : goal.returns
returns c = product_assoc c.args.p.now c.args.q.now c.args.r.now
