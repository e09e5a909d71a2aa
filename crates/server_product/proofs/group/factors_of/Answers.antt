use Rattle.std.proofs.Common.{◌≡◌, ℕ, ◌+◌, ◌*◌, ◌/◌, ◌%◌, ◌<◌, ◌≤◌, slice_index, ap, ap₂, ◌∙◌, refl, arith, mul-le-mul}
use Rattle.std.proofs.Math.ListN.{length-set}
use Rattle.server_product.proofs.QuerySums.{filled-four}
use Rattle.gf256.proofs.FlatRows.{row_within}
use Rattle.server_product.proofs.group.factors_of.Goals as goal

pub loop-v-preserved : goal.loop-v-preserved
loop-v-preserved c =
    let h = λ (p : ℕ). slice_index c.args.queries.now (p / 4 * c.args.rows + (c.args.j + p % 4 * c.args.apart)) in
    let v = c.loop-v.v in
    let size = c.loop-v.invariant.size in
    let first = 4 * v in
    let is : (p q g : ℕ) → p ≡ first + g → g < 4 → q ≡ v * c.args.rows + c.args.j + g * c.args.apart → slice_index c.args.queries.now q ≡ h p =
    λ p q g e l f.
    let quotient : v ≡ p / 4 = omega arith in
    let rest : g ≡ p % 4 = omega arith in
    let place : q ≡ v * c.args.rows + (c.args.j + g * c.args.apart) = omega arith in
    ap (slice_index c.args.queries.now) place ∙ ap₂ (λ u k. slice_index c.args.queries.now (u * c.args.rows + (c.args.j + k * c.args.apart))) quotient rest in
    record {
      size = length-set _ (first + 3) _ ∙ length-set _ (first + 2) _ ∙ length-set _ (first + 1) _ ∙ length-set c.loop-v.factors first _ ∙ size;
      filled = λ p l.
          filled-four c.loop-v.factors h first _ _ _ _ (omega arith) (is first _ 0 (omega arith) (omega arith) (omega arith))
          (is (first + 1) _ 1 refl (omega arith) (omega arith)) (is (first + 2) _ 2 refl (omega arith) (omega arith)) (is (first + 3) _ 3 refl (omega arith) (omega arith))
          c.loop-v.invariant.filled p (omega arith);
    }

pub returns : goal.returns
returns c = λ v g l m.
    let quotient : (4 * v + g) / 4 ≡ v = omega arith in
    let rest : (4 * v + g) % 4 ≡ g = omega arith in
    c.loop-v.invariant.filled (4 * v + g) (omega arith)
    ∙ ap₂ (λ u k. slice_index c.args.queries.now (u * c.args.rows + (c.args.j + k * c.args.apart))) quotient rest

pub overflow_mul-factors : goal.overflow_mul-factors
overflow_mul-factors c = omega arith

pub bounds-factors-v : goal.bounds-factors-v
bounds-factors-v c = omega arith

pub overflow_mul-factors-in-loop-v : goal.overflow_mul-factors-in-loop-v
overflow_mul-factors-in-loop-v c = omega arith

pub overflow_add-factors-in-loop-v : goal.overflow_add-factors-in-loop-v
overflow_add-factors-in-loop-v c = omega arith

pub bounds-factors-v-in-loop-v : goal.bounds-factors-v-in-loop-v
bounds-factors-v-in-loop-v c = omega arith

pub overflow_mul-factors-in-loop-v-2 : goal.overflow_mul-factors-in-loop-v-2
overflow_mul-factors-in-loop-v-2 c = omega arith

pub overflow_mul-factors-in-loop-v-3 : goal.overflow_mul-factors-in-loop-v-3
overflow_mul-factors-in-loop-v-3 c = omega arith

pub overflow_add-factors-in-loop-v-3 : goal.overflow_add-factors-in-loop-v-3
overflow_add-factors-in-loop-v-3 c = omega arith

pub bounds-factors-v-in-loop-v-2 : goal.bounds-factors-v-in-loop-v-2
bounds-factors-v-in-loop-v-2 c = omega arith

pub overflow_mul-factors-in-loop-v-4 : goal.overflow_mul-factors-in-loop-v-4
overflow_mul-factors-in-loop-v-4 c = omega arith

pub overflow_mul-factors-in-loop-v-5 : goal.overflow_mul-factors-in-loop-v-5
overflow_mul-factors-in-loop-v-5 c = omega arith

pub overflow_add-factors-in-loop-v-5 : goal.overflow_add-factors-in-loop-v-5
overflow_add-factors-in-loop-v-5 c = omega arith

pub bounds-factors-v-in-loop-v-3 : goal.bounds-factors-v-in-loop-v-3
bounds-factors-v-in-loop-v-3 c = omega arith

pub loop-v-init : goal.loop-v-init
loop-v-init c = record { size = refl; filled = λ p l. absurd (omega arith) }

pub overflow_mul-from : goal.overflow_mul-from
overflow_mul-from c =
    let most : c.loop-v.v ≤ 16 = omega arith in
    omega (arith, mul-le-mul most c.requires.memory)

pub overflow_add-from : goal.overflow_add-from
overflow_add-from c =
    let most : c.loop-v.v ≤ 16 = omega arith in
    omega (arith, mul-le-mul most c.requires.memory)

pub bounds-queries-from : goal.bounds-queries-from
bounds-queries-from c = omega (arith, row_within c.loop-v.v c.args.count c.args.rows (omega arith), c.requires.queries)

pub overflow_add-factors : goal.overflow_add-factors
overflow_add-factors c =
    let most : c.loop-v.v ≤ 16 = omega arith in
    omega (arith, mul-le-mul most c.requires.memory)

pub bounds-queries-from-in-loop-v : goal.bounds-queries-from-in-loop-v
bounds-queries-from-in-loop-v c = omega (arith, row_within c.loop-v.v c.args.count c.args.rows (omega arith), c.requires.queries)

pub overflow_add-factors-in-loop-v-2 : goal.overflow_add-factors-in-loop-v-2
overflow_add-factors-in-loop-v-2 c =
    let most : c.loop-v.v ≤ 16 = omega arith in
    omega (arith, mul-le-mul most c.requires.memory)

pub bounds-queries-from-in-loop-v-2 : goal.bounds-queries-from-in-loop-v-2
bounds-queries-from-in-loop-v-2 c = omega (arith, row_within c.loop-v.v c.args.count c.args.rows (omega arith), c.requires.queries)

pub overflow_add-factors-in-loop-v-4 : goal.overflow_add-factors-in-loop-v-4
overflow_add-factors-in-loop-v-4 c =
    let most : c.loop-v.v ≤ 16 = omega arith in
    omega (arith, mul-le-mul most c.requires.memory)

pub bounds-queries-from-in-loop-v-3 : goal.bounds-queries-from-in-loop-v-3
bounds-queries-from-in-loop-v-3 c = omega (arith, row_within c.loop-v.v c.args.count c.args.rows (omega arith), c.requires.queries)

pub loop-v-smaller : goal.loop-v-smaller
loop-v-smaller c = omega arith
