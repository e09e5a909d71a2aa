use Rattle.std.proofs.Common.{ℕ, ◌*◌, subst, arith}
use Rattle.gf256.specs.Rows.{AreLanes}
use Rattle.shamir_share.specs.Lanes.{padded, part, spread}
use Rattle.shamir_share.proofs.LaneParts.{parts_twice}
use Rattle.shamir_share.proofs.cells.Cells.sixteens.Goals as goal

pub returns : goal.returns
returns g c =
    let s = c.args.self.now in
    let n = g.row.N in
    let h = part (padded c.args.rows.now s.t s.from s.width) 8 c.args.products.now in
    parts_twice n _ _ c.pair.result (padded c.args.rows.now s.t s.from s.width) 8 c.args.products.now _ 0 0 s.width (2 * s.width) c.requires.cells.lanes.1
    c.eighth.ensures (omega arith) (omega arith)
    c.eights.ensures (subst (λ (p : ℕ). AreLanes n c.eights-2.result (λ k. h (spread p (2 * s.width) k)) 0) (omega arith) c.eights-2.ensures) c.pair.ensures
