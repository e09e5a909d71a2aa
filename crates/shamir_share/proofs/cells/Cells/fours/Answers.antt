use Rattle.std.proofs.Common.{ℕ, ◌*◌, subst, arith}
use Rattle.gf256.specs.Rows.{AreLanes}
use Rattle.shamir_share.specs.Lanes.{padded, part, spread}
use Rattle.shamir_share.proofs.LaneParts.{parts_twice}
use Rattle.shamir_share.proofs.cells.Cells.fours.Goals as goal

pub returns : goal.returns
returns g c =
    let s = c.args.self.now in
    let n = g.row.N in
    let h = part (padded c.args.rows.now s.t s.from s.width) 2 c.args.products.now in
    parts_twice n _ _ c.pair.result (padded c.args.rows.now s.t s.from s.width) 2 c.args.products.now _ (4 * c.args.u) (8 * c.args.u) (4 * s.width) (8 * s.width) c.requires.cells.lanes.1
    c.second.ensures (omega arith) (omega arith)
    c.twos.ensures (subst (λ (p : ℕ). AreLanes n c.twos-2.result (λ k. h (spread p (8 * s.width) k)) 0) (omega arith) c.twos-2.ensures) c.pair.ensures
