use Rattle.std.proofs.Common.{ℕ, ◌*◌, subst, arith}
use Rattle.gf256.specs.Rows.{AreLanes}
use Rattle.shamir_share.specs.Lanes.{padded, part, spread}
use Rattle.shamir_share.proofs.LaneParts.{parts_twice}
use Rattle.shamir_share.proofs.cells.Cells.eights.Goals as goal

pub returns : goal.returns
returns g c =
    let s = c.args.self.now in
    let n = g.row.N in
    let h = part (padded c.args.rows.now s.t s.from s.width) 4 c.args.products.now in
    parts_twice n _ _ c.pair.result (padded c.args.rows.now s.t s.from s.width) 4 c.args.products.now _ (2 * c.args.u) (4 * c.args.u) (2 * s.width) (4 * s.width) c.requires.cells.lanes.1
    c.fourth.ensures (omega arith) (omega arith)
    c.fours.ensures (subst (λ (p : ℕ). AreLanes n c.fours-2.result (λ k. h (spread p (4 * s.width) k)) 0) (omega arith) c.fours-2.ensures) c.pair.ensures
