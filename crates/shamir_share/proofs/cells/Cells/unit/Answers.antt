use Rattle.std.proofs.Common.{◌≤◌, ◌+◌, ◌-◌, ◌*◌, ◌/◌, ◌%◌, get_or, arith}
use Rattle.std.proofs.Math.Nat.{mul-le-mul_right}
use Rattle.shamir_share.specs.Lanes.{spread_even_first, padded, taken}
use Rattle.shamir_share.proofs.LaneParts.{lanes-same}
use Rattle.shamir_share.proofs.LanePlaces.{may_take, unit_lane}
use Rattle.shamir_share.proofs.cells.Cells.unit.Goals as goal

pub sorted_at-requires : goal.sorted_at-requires
sorted_at-requires g c =
    let s = c.args.self.now in
    let cells = c.requires.cells in
    let step : c.args.u * s.apart ≤ (s.width - 1) * s.apart = mul-le-mul_right s.apart (omega (arith, c.requires.within)) in (
      omega (arith, g.N.fits),
      (
        cells.sorted.size,
        (
          may_take g.row.N c.args.rows.now s.t s.from s.width s.apart s.places cells,
          omega (arith, step, cells.room),
        ),
      ),
    )

pub returns : goal.returns
returns g c =
    let s = c.args.self.now in
    let rows = c.args.rows.now in
    let u = c.args.u in
    lanes-same g.row.N c.sorted_at.result (λ k. taken rows (k / 16 * (16 * s.t) + (u * s.apart + s.from)) (get_or s.places (k % 16) 0))
    (λ k. padded rows s.t s.from s.width (spread_even_first (16 * u) (16 * s.width) k))
    (unit_lane g.row.N rows s.t s.from s.width s.apart s.places c.requires.cells u c.requires.within) c.sorted_at.ensures
