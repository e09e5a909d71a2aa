use Rattle.std.proofs.Common.{slice_index, refl, arith}
use Rattle.std.specs.Simd.Lanes.{chunk}
use Rattle.gf256.proofs.Added.{added-none}
use Rattle.gf256.proofs.LaneSums.{lanes-of, lanes-put}
use Rattle.gf256.proofs.rows.add_lanes.Goals as goal

pub returns : goal.returns
returns g c =
    let n = g.row.N in
    let acc = c.args.acc.now in
    let row = c.args.row.now in
    let at = c.args.at in
    lanes-put n acc acc acc (chunk at n row) (slice_index row) at at at (omega arith) c.requires.within refl (omega arith) (omega arith) (λ k l. refl)
    (lanes-of n row at (omega (arith, c.requires.within, c.requires.same))) (added-none acc (slice_index row) at)
