use Rattle.std.proofs.Common.{◌≡◌, ◌+◌, ◌-◌, length, map, refl, ap, subst, ◌∙◌, arith}
use Rattle.std.specs.Simd.Lanes.{chunk}
use Rattle.gf256.specs.Field.{◌⊗◌}
use Rattle.gf256.specs.Rows.{multiple, IsAdded}
use Rattle.gf256.proofs.Added.{added-all}
use Rattle.gf256.proofs.RowSums.{multiple-put, multiple-past}
use Rattle.gf256.proofs.rows.add_scaled_row.Goals as goal

pub returns-then-at-acc : goal.returns-then-at-acc
returns-then-at-acc c = λ k.
    let old = c.args.acc.now in
    let row = c.args.row.now in
    let factor = c.args.factor in
    let last = length old - 16 in
    let end : last + 16 ≡ length old = omega arith in
    let front = c.add_scaled_in_lanes-at in
    added-all _ old (multiple row factor) (last + 16) (λ j l. multiple-past row factor j (omega (arith, c.requires)))
    (multiple-put 16 front.new.acc old old row c.times.result factor 0 last front.result
    (omega arith) (omega arith) (omega arith) (omega arith) (omega (arith, front.ensures.few)) (omega (arith, front.ensures.within)) (λ j l. refl)
    (c.times.ensures ∙ ap (λ f. map (λ x. f ⊗ x) (chunk last 16 row)) c.of-products.ensures)
    (subst (λ f. IsAdded front.new.acc old (multiple row f) 0 front.result) c.of-products.ensures front.ensures.added)) k

pub returns-else-at-acc : goal.returns-else-at-acc
returns-else-at-acc c = λ k.
    let old = c.args.acc.now in
    let row = c.args.row.now in
    let factor = c.args.factor in
    let front = c.add_scaled_in_lanes-at in
    let end : front.result ≡ length old = omega (arith, front.ensures.within) in
    added-all front.new.acc old (multiple row factor) front.result (λ j l. multiple-past row factor j (omega (arith, c.requires)))
    (subst (λ f. IsAdded front.new.acc old (multiple row f) 0 front.result) c.of-products.ensures front.ensures.added) k
