use Rattle.server_product.proofs.Gathering.{trio-is}
use Rattle.std.proofs.Common.{refl}
use Rattle.server_product.proofs.gather.trio_of.Goals as goal

pub returns-clause-sum : goal.returns-clause-sum
returns-clause-sum c = λ k.
    trio-is c.args.q.now c.args.matrix.now.rows k c.args.three _ c.row.ensures.is c.row-2.ensures.is c.row-3.ensures.is refl c.requires.three
