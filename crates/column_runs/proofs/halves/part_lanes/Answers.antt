use Rattle.std.proofs.Common.{◌+◌, ◌≤◌, length, get_or, arith}
use Rattle.std.proofs.lemmas.Simd.{shifts_fit_splat}
use Rattle.gf256.proofs.LaneSums.{lanes-of, lanes-sum}
use Rattle.gf256.proofs.Xor.{add_lt}
use Rattle.column_runs.specs.Halves.{difference}
use Rattle.column_runs.proofs.Together.{parts-put}
use Rattle.column_runs.proofs.halves.part_lanes.Goals as goal

pub overflow_shr-high : goal.overflow_shr-high
overflow_shr-high g c = shifts_fit_splat 8 _ g.row.N 4 (omega arith)

pub returns : goal.returns
returns g c = λ n first parts.
    let row = c.args.row.now in
    let base = c.args.first.now in
    let at = c.args.at in
    let room_low : at + g.row.N ≤ length c.args.low.now = omega (arith, c.requires.within, c.requires.room) in
    let room_high : at + g.row.N ≤ length c.args.high.now = omega (arith, room_low, c.requires.same) in
    parts-put g.row.N c.args.low.now c.args.high.now _ (difference row base) at n first room_low room_high
    (λ k. add_lt (get_or row k 0) (get_or base k 0) (c.type_inv.row k).fits (c.type_inv.first k).fits)
    (lanes-sum _ _ (λ k. get_or row k 0) (λ k. get_or base k 0) at
    (lanes-of g.row.N row at (omega (arith, c.requires.within, c.requires.width))) (lanes-of g.row.N base at c.requires.within)) parts
