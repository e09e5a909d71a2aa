use Rattle.std.proofs.Common.{◌≡◌, ℕ, ◌-◌, ◌*◌, ◌∙◌, subst, drop, arith, length-drop}
use Rattle.std.proofs.Math.Nat.{pow-le-pow_right}
use Rattle.std.proofs.lemmas.List.Elements.{All-drop}
use Rattle.wire_frames.specs.Field.{IsNumber}
use Rattle.wire_frames.proofs.Digits.{IsByte, bytes_from_fits}
use Rattle.wire_frames.proofs.NumberPrefixes.{IsFloor, floor_none, floor_ends, floor_whole, turn_at, turn_fits, turn_goes_on, turn_stops, stops_within}
use Rattle.wire_frames.proofs.field.number_at.Goals as goal
use Rattle.wire_frames.proofs.field.number_at.Goals.{then-floor-number-via-then-floor-number, then-floor-number-via-else-floor-number+then-floor-spread}

pub loop-i-init : goal.loop-i-init
loop-i-init c = floor_none c.args.number (drop c.args.at c.args.bytes.now) c.requires

pub returns-in_default : goal.returns-in_default
returns-in_default c =
    let ended = c.in_default.ensures.lookup.3 in
    stops_within (IsNumber c.args.number) c.args.at c.args.number.width c.args.bytes.now c.loop-i.i c.loop-i-test.true
    (floor_ends c.args.number (drop c.args.at c.args.bytes.now) c.loop-i.i c.loop-i.floor c.loop-i-test.true (omega (arith, ended, length-drop c.args.at c.args.bytes.now)) c.loop-i.invariant)

pub pow-spread-requires : goal.pow-spread-requires
pow-spread-requires c =
    let h = pow-le-pow_right {n = 256} (omega arith) {i = c.args.number.width - 1 - c.loop-i.i} {j = 7} (omega (arith, c.requires.narrow)) in
    omega (arith, h)

pub overflow_mul-floor : goal.overflow_mul-floor
overflow_mul-floor c =
    let turn = turn_at c.args.number c.args.bytes.now c.args.at c.loop-i.i c.loop-i.floor c.from.result c.pow-spread.result c.requires (bytes_from_fits c.args.bytes.now c.type_inv.bytes) c.loop-i-test.true c.in-Some.ensures.lookup.3.0 c.loop-i.invariant (c.from.ensures ∙ c.in-Some.ensures.lookup.4 (omega arith) 0) c.pow-spread.ensures in
    let fits = turn_fits c.args.number (drop c.args.at c.args.bytes.now) c.loop-i.i c.loop-i.floor (c.from.result * c.pow-spread.result) c.pow-spread.result turn in
    omega (arith, fits)

pub overflow_add-floor : goal.overflow_add-floor
overflow_add-floor c =
    let turn = turn_at c.args.number c.args.bytes.now c.args.at c.loop-i.i c.loop-i.floor c.from.result c.pow-spread.result c.requires (bytes_from_fits c.args.bytes.now c.type_inv.bytes) c.loop-i-test.true c.in-Some.ensures.lookup.3.0 c.loop-i.invariant (c.from.ensures ∙ c.in-Some.ensures.lookup.4 (omega arith) 0) c.pow-spread.ensures in
    let fits = turn_fits c.args.number (drop c.args.at c.args.bytes.now) c.loop-i.i c.loop-i.floor (c.from.result * c.pow-spread.result) c.pow-spread.result turn in
    omega (arith, fits)

pub overflow_sub-spread : goal.overflow_sub-spread
overflow_sub-spread c =
    let turn = turn_at c.args.number c.args.bytes.now c.args.at c.loop-i.i c.loop-i.floor c.from.result c.pow-spread.result c.requires (bytes_from_fits c.args.bytes.now c.type_inv.bytes) c.loop-i-test.true c.in-Some.ensures.lookup.3.0 c.loop-i.invariant (c.from.ensures ∙ c.in-Some.ensures.lookup.4 (omega arith) 0) c.pow-spread.ensures in
    let fits = turn_fits c.args.number (drop c.args.at c.args.bytes.now) c.loop-i.i c.loop-i.floor (c.from.result * c.pow-spread.result) c.pow-spread.result turn in
    omega (arith, fits)

pub overflow_add-floor-else-floor-number : goal.overflow_add-floor-else-floor-number
overflow_add-floor-else-floor-number c =
    let turn = turn_at c.args.number c.args.bytes.now c.args.at c.loop-i.i c.loop-i.floor c.from.result c.pow-spread.result c.requires (bytes_from_fits c.args.bytes.now c.type_inv.bytes) c.loop-i-test.true c.in-Some.ensures.lookup.3.0 c.loop-i.invariant (c.from.ensures ∙ c.in-Some.ensures.lookup.4 (omega arith) 0) c.pow-spread.ensures in
    let fits = turn_fits c.args.number (drop c.args.at c.args.bytes.now) c.loop-i.i c.loop-i.floor (c.from.result * c.pow-spread.result) c.pow-spread.result turn in
    omega (arith, fits)

pub returns-then-floor-number : goal.returns-then-floor-number
returns-then-floor-number c =
    let turn = turn_at c.args.number c.args.bytes.now c.args.at c.loop-i.i c.loop-i.floor c.from.result c.pow-spread.result c.requires (bytes_from_fits c.args.bytes.now c.type_inv.bytes) c.loop-i-test.true c.in-Some.ensures.lookup.3.0 c.loop-i.invariant (c.from.ensures ∙ c.in-Some.ensures.lookup.4 (omega arith) 0) c.pow-spread.ensures in
    stops_within (IsNumber c.args.number) c.args.at c.args.number.width c.args.bytes.now c.loop-i.i c.loop-i-test.true
    (turn_stops c.args.number (drop c.args.at c.args.bytes.now) c.loop-i.i c.loop-i.floor (c.from.result * c.pow-spread.result) c.pow-spread.result turn
    (λ right. elim c.then-floor-number.branch [
      | then-floor-number-via-then-floor-number w ↦ omega (arith, right.low)
      | then-floor-number-via-else-floor-number+then-floor-spread w ↦ omega (arith, right.high)
    ]))

pub loop-i-preserved : goal.loop-i-preserved
loop-i-preserved c =
    let turn = turn_at c.args.number c.args.bytes.now c.args.at c.loop-i.i c.loop-i.floor c.from.result c.pow-spread.result c.requires (bytes_from_fits c.args.bytes.now c.type_inv.bytes) c.loop-i-test.true c.in-Some.ensures.lookup.3.0 c.loop-i.invariant (c.from.ensures ∙ c.in-Some.ensures.lookup.4 (omega arith) 0) c.pow-spread.ensures in
    let fits = turn_fits c.args.number (drop c.args.at c.args.bytes.now) c.loop-i.i c.loop-i.floor (c.from.result * c.pow-spread.result) c.pow-spread.result turn in
    turn_goes_on c.args.number (drop c.args.at c.args.bytes.now) c.loop-i.i c.loop-i.floor (c.from.result * c.pow-spread.result) c.pow-spread.result turn
    record { low = c.if-floor-number.false; high = omega (arith, c.if-floor-spread.false, fits) }

pub returns : goal.returns
returns c =
    let whole : c.loop-i.i ≡ c.args.number.width = omega arith in
    floor_whole c.args.number (drop c.args.at c.args.bytes.now) c.loop-i.floor c.requires (All-drop IsByte c.args.at c.args.bytes.now (bytes_from_fits c.args.bytes.now c.type_inv.bytes))
    (subst (λ (i : ℕ). IsFloor c.args.number (drop c.args.at c.args.bytes.now) i c.loop-i.floor) whole c.loop-i.invariant)
