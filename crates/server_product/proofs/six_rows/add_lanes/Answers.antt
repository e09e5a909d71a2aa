use Rattle.std.proofs.Common.{◌+◌, bit_xor, refl, subst, sym, arith}
use Rattle.std.specs.Simd.Lanes.{zip2, put_chunk}
use Rattle.gf256.specs.Rows.{IsAdded}
use Rattle.server_product.specs.SixRows.{six_at}
use Rattle.gf256.proofs.Added.{added-none}
use Rattle.gf256.proofs.LaneSums.{lanes-put}
use Rattle.server_product.proofs.six_rows.add_lanes.Goals as goal

pub returns : goal.returns
returns g c =
    let acc = c.args.acc.now in
    let at = c.args.at in
    let six = six_at c.args.six in
    let lanes = c.six_lanes.result in
    subst (λ base. IsAdded (put_chunk at acc (zip2 bit_xor base lanes)) acc six at (at + g.row.N)) (sym c.lanes_of.ensures)
    (lanes-put g.row.N acc acc acc lanes six at at at (omega arith) c.requires.within refl (omega arith) (omega arith) (λ k l. refl)
    c.six_lanes.ensures (added-none acc six at))
