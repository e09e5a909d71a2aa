use Rattle.std.proofs.Common.{◌≢◌, ℕ, ◌+◌, ◌-◌, ◌*◌, ◌≤◌, length, subst, arith}
use Rattle.std.proofs.Math.Nat.{mul-le-mul_right}
use Rattle.gf256.proofs.FlatRows.{row_within}
use Rattle.gs_interpolate.specs.Family.{IsRowStep}
use Rattle.gs_interpolate.proofs.RowSteps.{row_step-idle, row_step-all}
use Rattle.gs_interpolate.proofs.family.step_reached.Goals as goal

-- the last of the powers has its places
last_fits : (powers count n : ℕ) → powers ≢ 0 → powers ≤ count → (powers - 1) * n + n ≤ count * n
last_fits powers count n some few = row_within (powers - 1) count n (omega (arith, some, few))

-- so has the power behind them
next_fits : (powers count n : ℕ) → powers ≢ count → powers ≤ count → powers * n + n ≤ count * n
next_fits powers count n other few = row_within powers count n (omega (arith, other, few))

pub returns-then-powers-eq0 : goal.returns-then-powers-eq0
returns-then-powers-eq0 c = row_step-idle c.powers_reached-powers.ensures c.if-powers-eq0.true

pub overflow_mul-last : goal.overflow_mul-last
overflow_mul-last c =
    let n = length c.args.factors.now in
    let fit = last_fits c.powers_reached-powers.result c.args.count n c.if-powers-eq0.false c.powers_reached-powers.ensures.few in
    omega (arith, fit, c.requires.room)

pub overflow_add-last : goal.overflow_add-last
overflow_add-last c =
    let n = length c.args.factors.now in
    let fit = last_fits c.powers_reached-powers.result c.args.count n c.if-powers-eq0.false c.powers_reached-powers.ensures.few in
    omega (arith, fit, c.requires.room, c.requires.inside)

pub bounds-row-powers : goal.bounds-row-powers
bounds-row-powers c =
    let n = length c.args.factors.now in
    let fit = last_fits c.powers_reached-powers.result c.args.count n c.if-powers-eq0.false c.powers_reached-powers.ensures.few in
    omega (arith, fit, c.requires.room, c.requires.inside)

pub step_row-requires-clause-room : goal.step_row-requires-clause-room
step_row-requires-clause-room c =
    omega (arith, mul-le-mul_right (length c.args.factors.now) c.powers_reached-powers.ensures.few, c.requires.room)

pub returns-then-powers-count : goal.returns-then-powers-count
returns-then-powers-count c =
    subst (IsRowStep c.args.factors.now c.args.p c.step_row.new.row c.args.row.now) c.if-powers-count.true c.step_row.ensures

pub overflow_mul-row : goal.overflow_mul-row
overflow_mul-row c =
    let n = length c.args.factors.now in
    let fit = next_fits c.powers_reached-powers.result c.args.count n c.if-powers-count.false c.powers_reached-powers.ensures.few in
    omega (arith, fit, c.requires.room)

pub overflow_add-row : goal.overflow_add-row
overflow_add-row c =
    let n = length c.args.factors.now in
    let fit = next_fits c.powers_reached-powers.result c.args.count n c.if-powers-count.false c.powers_reached-powers.ensures.few in
    omega (arith, fit, c.requires.room, c.requires.inside)

pub bounds-row-powers-2 : goal.bounds-row-powers-2
bounds-row-powers-2 c =
    let n = length c.args.factors.now in
    let fit = next_fits c.powers_reached-powers.result c.args.count n c.if-powers-count.false c.powers_reached-powers.ensures.few in
    omega (arith, fit, c.requires.room, c.requires.inside, c.step_row.auto.row)

pub returns : goal.returns
returns c =
    let reach = c.powers_reached-powers.ensures in
    row_step-all c.requires.inside reach c.if-powers-eq0.false (omega (arith, reach.few, c.if-powers-count.false))
    (omega (arith, c.requires.room, c.step_row.auto.row)) c.step_row.ensures
