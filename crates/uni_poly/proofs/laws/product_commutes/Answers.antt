use Rattle.uni_poly.proofs.Products.{product_comm}
use Rattle.uni_poly.proofs.laws.product_commutes.Goals as goal

pub returns : goal.returns
returns c = product_comm c.args.p.now c.args.q.now
