use Rattle.std.proofs.Common.{◌≡◌, ℕ, ◌≤◌, ◌*◌, ◌+◌, arith, mul-le-mul_left}
use Rattle.std.specs.Int.{div_ceil}
use Rattle.std.proofs.lemmas.Grind.{div_ceil_times}
use Rattle.server_product.proofs.group.sum_group.Goals as goal

-- what fits in blocks of 16 fits in blocks of 32
wide_fits : (width count : ℕ) → count ≤ 16 → count * div_ceil width 16 ≤ 4096 → 32 * (div_ceil width 32 * count) ≤ 66048
wide_fits width count few fits =
    let wide = div_ceil width 32 in
    let narrow = div_ceil width 16 in
    let twice : 2 * wide ≤ narrow + 1 = omega (arith, (div_ceil_times width 32 (omega arith)).1, (div_ceil_times width 16 (omega arith)).0) in
    let same : 32 * (wide * count) ≡ 16 * (count * (2 * wide)) = grind arith in
    let more : count * (narrow + 1) ≡ count * narrow + count = grind arith in
    omega (arith, same, more, mul-le-mul_left count twice, fits, few)

pub sum_group-requires-clause-fits : goal.sum_group-requires-clause-fits
sum_group-requires-clause-fits c = wide_fits c.args.matrix.now.width c.args.count c.requires.few c.requires.fits

pub returns-then-takes_wide_lanes : goal.returns-then-takes_wide_lanes
returns-then-takes_wide_lanes c = c.sum_group.ensures

pub returns-else-takes_wide_lanes : goal.returns-else-takes_wide_lanes
returns-else-takes_wide_lanes c = c.sum_group-else-takes_wide_lanes.ensures
