use Rattle.std.proofs.Common.{ℕ, ◌*◌, subst, arith}
use Rattle.gf256.specs.Rows.{AreLanes}
use Rattle.shamir_share.specs.Lanes.{spread_even_first, padded}
use Rattle.shamir_share.proofs.LaneParts.{parts_of_lanes}
use Rattle.shamir_share.proofs.LanePlaces.{padded-lt}
use Rattle.shamir_share.proofs.cells.Cells.twos.Goals as goal

pub returns : goal.returns
returns g c =
    let s = c.args.self.now in
    let rows = c.args.rows.now in
    let u = c.args.u in
    let n = g.row.N in
    let h = padded rows s.t s.from s.width in
    parts_of_lanes n _ _ c.join.result h c.args.products.now _ (8 * u) (16 * u) (8 * s.width) (16 * s.width) c.requires.cells.lanes.1
    (padded-lt rows s.t s.from s.width (λ i. (c.type_inv.rows i).fits)) c.first.ensures (omega arith) (omega arith)
    c.unit.ensures (subst (λ (p : ℕ). AreLanes n c.unit-2.result (λ k. h (spread_even_first p (16 * s.width) k)) 0) (omega arith) c.unit-2.ensures) c.join.ensures
