use Rattle.std.proofs.Common.{◌≡◌, ◌+◌, ◌-◌, length, bit_xor, refl, subst, sym, arith}
use Rattle.std.specs.Simd.Lanes.{zip2, put_chunk}
use Rattle.gf256.specs.Rows.{IsAdded}
use Rattle.server_product.specs.SixRows.{six_at}
use Rattle.gf256.proofs.Added.{added-all}
use Rattle.gf256.proofs.LaneSums.{lanes-put}
use Rattle.server_product.proofs.SixSums.{six-past}
use Rattle.server_product.proofs.six_rows.add_six_rows.Goals as goal

pub add_six_short-requires : goal.add_six_short-requires
add_six_short-requires c =
    let needs = c.requires in
    record { a = needs.a; b = needs.b; c = needs.c; d = needs.d; e = needs.e; f = needs.f }

pub add_in_lanes-at-requires : goal.add_in_lanes-at-requires
add_in_lanes-at-requires c =
    let needs = c.requires in
    record { products = c.products_of-products.ensures; a = needs.a; b = needs.b; c = needs.c; d = needs.d; e = needs.e; f = needs.f }

pub six_lanes-requires : goal.six_lanes-requires
six_lanes-requires c = (
  omega arith,
  (
    c.products_of-products.ensures,
    (omega arith, (omega arith, (omega arith, (omega arith, (omega arith, omega arith))))),
  ),
)

pub store-acc : goal.store-acc
store-acc c = omega arith

pub returns-then-at-acc : goal.returns-then-at-acc
returns-then-at-acc c = λ k.
    let old = c.args.acc.now in
    let six = c.args.six in
    let last = length old - 16 in
    let end : last + 16 ≡ length old = omega arith in
    let needs = c.requires in
    let front = c.add_in_lanes-at in
    added-all _ old (six_at six) (last + 16)
    (λ j l. six-past six (length old) needs.a needs.b needs.c needs.d needs.e needs.f j (omega arith))
    (subst (λ r. IsAdded (put_chunk last front.new.acc (zip2 bit_xor r c.six_lanes.result)) old (six_at six) 0 (last + 16)) (sym c.lanes_of-end.ensures)
    (lanes-put 16 front.new.acc old old c.six_lanes.result (six_at six) 0 last front.result
    (omega arith) (omega arith) (omega arith) (omega (arith, front.ensures.few)) (omega (arith, front.ensures.within)) (λ j l. refl) c.six_lanes.ensures
    front.ensures.added)) k

pub returns-else-at-acc : goal.returns-else-at-acc
returns-else-at-acc c = λ k.
    let old = c.args.acc.now in
    let six = c.args.six in
    let needs = c.requires in
    let front = c.add_in_lanes-at in
    let end : front.result ≡ length old = omega (arith, front.ensures.within) in
    added-all front.new.acc old (six_at six) front.result
    (λ j l. six-past six (length old) needs.a needs.b needs.c needs.d needs.e needs.f j (omega arith)) front.ensures.added k
