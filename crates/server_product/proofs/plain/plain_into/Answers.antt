use Rattle.std.proofs.Common.{arith}
use Rattle.server_product.proofs.RunSums.{product-is}
use Rattle.server_product.proofs.plain.plain_into.Goals as goal

pub returns : goal.returns
returns c =
    product-is c.args.q.now c.loop-column.out c.args.matrix.now.rows c.args.matrix.now.width (omega (arith, c.requires.room))
    (λ k l. c.loop-column.invariant k (omega (arith, c.requires.room)))
