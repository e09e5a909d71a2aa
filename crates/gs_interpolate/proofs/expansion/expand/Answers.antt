use Rattle.std.proofs.Common.{◌+◌, ◌*◌, ◌/◌, ◌≤◌, subst, sym, arith}
use Rattle.std.proofs.Math.Nat.{mul-le-mul_right}
use Rattle.gs_interpolate.proofs.Expansions.{AreHalved, halved-none, halved-room, halved-next, halved-all}
use Rattle.gs_interpolate.proofs.expansion.expand.Goals as goal

pub halves-init : goal.halves-init
halves-init c = halved-none c.args.lanes c.args.terms c.args.a c.args.cells.now c.requires.some (omega arith) c.requires.power c.requires.size (λ k. (c.type_inv.cells k).fits)

pub add_halves-requires : goal.add_halves-requires
add_halves-requires c =
    let h = c.halves in
    let room = halved-room c.args.lanes c.args.terms c.args.a h.pairs h.size h.power c.args.cells.now h.cells c.halves-test.true h.invariant in
    omega (arith, room)

pub overflow_mul-size : goal.overflow_mul-size
overflow_mul-size c =
    let h = c.halves in
    let room = halved-room c.args.lanes c.args.terms c.args.a h.pairs h.size h.power c.args.cells.now h.cells c.halves-test.true h.invariant in
    let one : 1 ≤ h.pairs = c.halves-test.true in
    let least = mul-le-mul_right (h.size + h.size) one in
    omega (arith, room, least, h.auto.cells)

pub halves-preserved : goal.halves-preserved
halves-preserved c =
    let h = c.halves in
    let n = c.args.lanes in
    let terms = c.args.terms in
    let cells = c.args.cells.now in
    let made = c.add_halves.new.cells in
    subst (AreHalved n terms c.args.a cells made (h.pairs / 2) (h.size * 2)) (sym c.mul-power.ensures)
    (halved-next n terms c.args.a h.pairs h.size h.power cells h.cells made c.requires.some c.requires.size c.halves-test.true h.invariant c.add_halves.ensures)

pub returns : goal.returns
returns c =
    let h = c.halves in
    halved-all c.args.lanes c.args.terms c.args.a h.pairs h.size h.power c.args.cells.now h.cells c.requires.size (omega (arith, c.halves-test.false)) h.invariant
