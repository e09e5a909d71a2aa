use Rattle.std.proofs.Common.{◌≡◌, ◌+◌, ◌-◌, length, slice_index, refl, arith}
use Rattle.std.specs.Simd.Lanes.{chunk}
use Rattle.std.proofs.lemmas.List.{get_or_past}
use Rattle.gf256.proofs.Added.{added-all}
use Rattle.gf256.proofs.LaneSums.{lanes-of, lanes-put}
use Rattle.gf256.proofs.rows.add_row.Goals as goal

pub returns-then-at-acc : goal.returns-then-at-acc
returns-then-at-acc c = λ k.
    let old = c.args.acc.now in
    let row = c.args.row.now in
    let last = length old - 16 in
    let end : last + 16 ≡ length old = omega arith in
    let front = c.add_in_lanes-at in
    added-all _ old (slice_index row) (last + 16) (λ j l. get_or_past row j 0 (omega (arith, c.requires)))
    (lanes-put 16 front.new.acc old old (chunk last 16 row) (slice_index row) 0 last front.result
    (omega arith) (omega arith) (omega arith) (omega (arith, front.ensures.few)) (omega (arith, front.ensures.within)) (λ j l. refl)
    (lanes-of 16 row last (omega (arith, c.requires))) front.ensures.added) k

pub returns-else-at-acc : goal.returns-else-at-acc
returns-else-at-acc c = λ k.
    let old = c.args.acc.now in
    let row = c.args.row.now in
    let front = c.add_in_lanes-at in
    let end : front.result ≡ length old = omega (arith, front.ensures.within) in
    added-all front.new.acc old (slice_index row) front.result (λ j l. get_or_past row j 0 (omega (arith, c.requires))) front.ensures.added k
