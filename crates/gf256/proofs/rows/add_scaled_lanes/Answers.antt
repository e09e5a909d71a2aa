use Rattle.std.proofs.Common.{arith}
use Rattle.gf256.specs.Rows.{multiple}
use Rattle.gf256.proofs.Added.{added-none}
use Rattle.gf256.proofs.RowSums.{added-next}
use Rattle.gf256.proofs.rows.add_scaled_lanes.Goals as goal

pub returns : goal.returns
returns g c =
    let acc = c.args.acc.now in
    let at = c.args.at in
    added-next g.row.N acc acc c.args.row.now c.times.result c.args.products.now at at (omega arith) c.requires.within c.requires.same
    c.times.ensures (added-none acc (multiple c.args.row.now c.args.products.now) at)
