use Rattle.std.proofs.Common.{◌+◌, map, bit_xor, ap₂, subst, sym, ◌∙◌}
use Rattle.std.specs.Simd.Lanes.{zip2, put_chunk}
use Rattle.gf256.specs.Field.{◌⊗◌}
use Rattle.gf256.specs.Rows.{IsAdded}
use Rattle.server_product.specs.Trios.{trio_at}
use Rattle.server_product.proofs.TrioSums.{trio-put}
use Rattle.server_product.proofs.trios.add_lanes.Goals as goal

pub returns : goal.returns
returns g c =
    let acc = c.args.acc.now in
    let at = c.args.at in
    let rows = ap₂ (zip2 bit_xor) (ap₂ (zip2 bit_xor) c.lanes_of.ensures c.lanes_of-2.ensures) c.lanes_of-3.ensures in
    subst (λ base. IsAdded (put_chunk at acc (zip2 bit_xor base c.times.result)) acc (trio_at c.args.trio) at (at + g.row.N)) (sym c.lanes_of-4.ensures)
    (trio-put g.row.N acc c.args.trio c.times.result at c.requires.within c.requires.a c.requires.b c.requires.c
    (c.times.ensures ∙ ap₂ (λ f xs. map (λ x. f ⊗ x) xs) c.requires.factor rows))
