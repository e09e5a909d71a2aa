use Rattle.row_workers.proofs.PieceSums.{length-piece}
use Rattle.gf256.proofs.FlatRows.{row_within}
use Rattle.std.proofs.Math.Nat.{mul-le-mul_right}
use Rattle.std.proofs.Common.{◌≡◌, ◌+◌, ◌-◌, length, refl, sym, subst, ◌∙◌, arith, ◌≤◌}
use Rattle.std.proofs.lemmas.Nat.Bits.{shr_and_one}
use Rattle.xor_answers.proofs.WaitingSums.{IsGiven, given-then, given-else}
use Rattle.xor_answers.proofs.gather.add_to_asked.Goals as goal
use Rattle.xor_answers.proofs.gather.add_to_asked.Goals.{then-pattern-place-eq1, else-pattern-place-eq1}

pub loop-v-init : goal.loop-v-init
loop-v-init c = record {
  done = λ u k l m. absurd (omega (arith, l));
  rest = λ u k l m. refl;
}

pub loop-v-preserved : goal.loop-v-preserved
loop-v-preserved c =
    let row = c.args.row.now in
    let w = length row in
    let n = c.args.count in
    let p = c.args.pattern in
    let v = c.loop-v.v in
    elim c.if-pattern-place-eq1.branch [
      | then-pattern-place-eq1 t ↦
          subst (λ xs. IsGiven xs c.args.sums.now row w n p (v + 1)) (sym t.sums-is)
          (given-then c.loop-v.sums c.args.sums.now t.add_row.new.acc row w n p v c.loop-v-test.true (omega arith) t.add_row.auto.acc t.add_row.ensures
          (sym (shr_and_one p (n - 1 - v)) ∙ t.if-pattern-place-eq1.true) c.loop-v.invariant)
      | else-pattern-place-eq1 t ↦
          subst (λ xs. IsGiven xs c.args.sums.now row w n p (v + 1)) (sym t.sums-is)
          (given-else c.loop-v.sums c.args.sums.now row w n p v (λ bit. t.if-pattern-place-eq1.false (shr_and_one p (n - 1 - v) ∙ bit)) c.loop-v.invariant)
    ]

pub returns : goal.returns
returns c = λ v k l m.
    let end : c.loop-v.v ≡ c.args.count = omega arith in
    c.loop-v.invariant.done v k (omega (arith, l, end)) m

pub overflow_sub-place : goal.overflow_sub-place
overflow_sub-place c = omega arith

pub overflow_sub-place-in-loop-v : goal.overflow_sub-place-in-loop-v
overflow_sub-place-in-loop-v c = omega arith

pub overflow_cast-place : goal.overflow_cast-place
overflow_cast-place c = omega arith

pub overflow_shr-pattern : goal.overflow_shr-pattern
overflow_shr-pattern c = omega arith

pub overflow_mul-v : goal.overflow_mul-v
overflow_mul-v c = omega (arith, row_within c.loop-v.v c.args.count (length c.args.row.now) (omega arith), c.requires.room)

pub overflow_add-v : goal.overflow_add-v
overflow_add-v c = omega arith

pub overflow_mul-v-then-pattern-place-eq1 : goal.overflow_mul-v-then-pattern-place-eq1
overflow_mul-v-then-pattern-place-eq1 c =
    let next : c.loop-v.v + 1 ≤ c.args.count = omega arith in
    omega (arith, mul-le-mul_right (length c.args.row.now) next, c.requires.room)

pub slice_bounds-add_row-count : goal.slice_bounds-add_row-count
slice_bounds-add_row-count c =
    let next : c.loop-v.v ≤ c.loop-v.v + 1 = omega arith in
    mul-le-mul_right (length c.args.row.now) next

pub slice_bounds-add_row-start : goal.slice_bounds-add_row-start
slice_bounds-add_row-start c = omega (arith, row_within c.loop-v.v c.args.count (length c.args.row.now) (omega arith), c.requires.room)

pub slice_bounds-add_row-end : goal.slice_bounds-add_row-end
slice_bounds-add_row-end c =
    let next : c.loop-v.v + 1 ≤ c.args.count = omega arith in
    omega (arith, mul-le-mul_right (length c.args.row.now) next, c.requires.room)

pub add_row-requires : goal.add_row-requires
add_row-requires c = omega (arith, length-piece c.loop-v.sums (length c.args.row.now) c.loop-v.v c.args.count (omega arith) (c.loop-v.auto.sums ∙ c.requires.room))

pub loop-v-smaller : goal.loop-v-smaller
loop-v-smaller c = omega arith
