use Rattle.std.proofs.Common.{◌≡◌, ◌≤◌, ℕ, List, ◌+◌, ◌-◌, ◌*◌, ◌∙◌, length, take, drop, ap, subst, arith, length-drop}
use Rattle.std.specs.Int.{div_ceil}
use Rattle.std.proofs.Math.Nat.{mul-le-mul_right}
use Rattle.std.proofs.lemmas.List.{length-take-le}
use Rattle.row_workers.proofs.PieceSums.{part_fits}
use Rattle.server_product.proofs.QuerySums.{group-more}
use Rattle.server_product.proofs.queries.sum_queries.Goals as goal

-- what some queries have, from query n on
part_long : (xs : List ℕ) (n k count r rows : ℕ) → n + k ≤ count → r ≡ rows → length xs ≡ count * rows
    → length (take ((n + k) * r - n * r) (drop (n * r) xs)) ≡ (n + k - n) * rows
part_long xs n k count r rows l e size =
    let inside = part_fits (n + k) count r rows (length xs) l e size in
    let span : (n + k) * r - n * r ≡ k * r = omega arith in
    let some : k ≡ n + k - n = omega arith in
    ap (λ j. length (take j (drop (n * r) xs))) span
    ∙ length-take-le (k * r) (drop (n * r) xs) (omega (arith, length-drop (n * r) xs, inside))
    ∙ ap (λ j. k * j) e ∙ ap (λ j. j * rows) some

-- fewer queries than a group has fit where it does
group_fits : (n k group d lanes most : ℕ) → k ≤ group → d ≡ lanes → group * d ≤ most → (n + k - n) * lanes ≤ most
group_fits n k group d lanes most l e fits =
    let some : k ≡ n + k - n = omega arith in
    let less : k * d ≤ most = omega (arith, mul-le-mul_right d l, fits) in
    subst (λ j. j * lanes ≤ most) some (subst (λ j. k * j ≤ most) e less)

pub overflow_mul-some : goal.overflow_mul-some
overflow_mul-some c =
    omega (arith, part_fits c.groups.done c.args.count c.rows-rows.result _ _ c.groups.invariant.within c.rows-rows.ensures.is c.requires.queries)

pub overflow_mul-some-in-groups : goal.overflow_mul-some-in-groups
overflow_mul-some-in-groups c =
    omega (arith, part_fits (c.groups.done + c.min.result) c.args.count c.rows-rows.result _ _ (omega arith) c.rows-rows.ensures.is c.requires.queries)

pub slice_bounds-some-end : goal.slice_bounds-some-end
slice_bounds-some-end c =
    omega (arith, part_fits (c.groups.done + c.min.result) c.args.count c.rows-rows.result _ _ (omega arith) c.rows-rows.ensures.is c.requires.queries)

pub overflow_mul-own : goal.overflow_mul-own
overflow_mul-own c =
    omega (arith, part_fits c.groups.done c.args.count c.width-width.result _ _ c.groups.invariant.within c.width-width.ensures.is c.requires.room)

pub overflow_mul-own-in-groups : goal.overflow_mul-own-in-groups
overflow_mul-own-in-groups c =
    omega (arith, part_fits (c.groups.done + c.min.result) c.args.count c.width-width.result _ _ (omega arith) c.width-width.ensures.is c.requires.room)

pub slice_bounds-own-end : goal.slice_bounds-own-end
slice_bounds-own-end c =
    let room = c.groups.auto.sums ∙ c.requires.room in
    omega (arith, part_fits (c.groups.done + c.min.result) c.args.count c.width-width.result _ _ (omega arith) c.width-width.ensures.is room)

pub sum_some-requires-clause-fits : goal.sum_some-requires-clause-fits
sum_some-requires-clause-fits c =
    group_fits c.groups.done c.min.result c.group_of-group.result _ _ _ (omega arith) (ap (λ w. div_ceil w 16) c.width.ensures.is) c.group_of-group.ensures.fits

pub sum_some-requires-clause-queries : goal.sum_some-requires-clause-queries
sum_some-requires-clause-queries c =
    part_long c.args.queries.now c.groups.done c.min.result c.args.count c.rows-rows.result _ (omega arith) c.rows-rows.ensures.is c.requires.queries

pub sum_some-requires-clause-room : goal.sum_some-requires-clause-room
sum_some-requires-clause-room c =
    part_long c.groups.sums c.groups.done c.min.result c.args.count c.width-width.result _ (omega arith) c.width-width.ensures.is
    (c.groups.auto.sums ∙ c.requires.room)

pub groups-preserved : goal.groups-preserved
groups-preserved c =
    let done = c.groups.done in
    let end = done + c.min.result in
    let most : end ≤ c.args.count = omega (arith, c.min.ensures, c.groups.invariant.within) in
    record {
      within = most;
      summed =
          group-more c.args.queries.now c.groups.sums c.sum_some.new.sums c.args.matrix.now.rows c.args.matrix.now.width done end c.args.from c.args.to
          c.args.count c.rows-rows.result c.width-width.result c.rows-rows.ensures.is c.width-width.ensures.is (omega arith) most (c.groups.auto.sums ∙ c.requires.room)
          c.sum_some.auto.sums c.requires.within c.sum_some.ensures c.groups.invariant.summed;
    }

pub overflow_cast-rows : goal.overflow_cast-rows
overflow_cast-rows c = omega arith

pub overflow_cast-width : goal.overflow_cast-width
overflow_cast-width c = omega arith

pub group_of-group-requires-clause-some : goal.group_of-group-requires-clause-some
group_of-group-requires-clause-some c = omega arith

pub group_of-group-requires-clause-few : goal.group_of-group-requires-clause-few
group_of-group-requires-clause-few c = omega arith

pub overflow_cast-group : goal.overflow_cast-group
overflow_cast-group c = omega arith

pub overflow_sub-count : goal.overflow_sub-count
overflow_sub-count c = omega arith

pub overflow_add-end : goal.overflow_add-end
overflow_add-end c = omega arith

pub slice_bounds-some-count : goal.slice_bounds-some-count
slice_bounds-some-count c = omega arith

pub slice_bounds-some-start : goal.slice_bounds-some-start
slice_bounds-some-start c = omega arith

pub slice_bounds-own-count : goal.slice_bounds-own-count
slice_bounds-own-count c = omega arith

pub slice_bounds-own-start : goal.slice_bounds-own-start
slice_bounds-own-start c = omega arith

pub overflow_sub-end : goal.overflow_sub-end
overflow_sub-end c = omega arith

pub sum_some-requires-clause-some : goal.sum_some-requires-clause-some
sum_some-requires-clause-some c = omega arith

pub sum_some-requires-clause-few : goal.sum_some-requires-clause-few
sum_some-requires-clause-few c = omega arith

pub sum_some-requires-clause-wide : goal.sum_some-requires-clause-wide
sum_some-requires-clause-wide c = omega arith

pub sum_some-requires-clause-order : goal.sum_some-requires-clause-order
sum_some-requires-clause-order c = c.requires.order

pub sum_some-requires-clause-within : goal.sum_some-requires-clause-within
sum_some-requires-clause-within c = c.requires.within

pub groups-smaller : goal.groups-smaller
groups-smaller c = omega arith
