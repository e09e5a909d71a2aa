use Rattle.gf256.proofs.LaneSums.{lanes-sum, lanes-times}
use Rattle.shamir_share.proofs.cells.join.Goals as goal

pub returns : goal.returns
returns g c = lanes-sum _ _ _ _ 0 c.first_eights.ensures (lanes-times _ _ _ c.args.products.now 0 c.times.ensures c.last_eights.ensures)
