use Rattle.std.proofs.Common.{◌∙◌, ◌+◌, drop, sym, ap, ap₂, arith, slice_index, slice_index_or}
use Rattle.gf256.specs.Field.{◌⊕◌}
use Rattle.gf256.proofs.Xor.{add_zero, zero_add, add_assoc}
use Rattle.server_product.specs.Gathered.{few_sum, held_sum, rest_sum, waiting_sum}
use Rattle.server_product.specs.declared.gather.UpToThree.TheVariants.{Empty}
use Rattle.server_product.proofs.Gathering.{waiting-next, waiting-end, are-rows}
use Rattle.server_product.proofs.gather.add_waiting.Goals as goal

pub loop-factor-init : goal.loop-factor-init
unfolding few_sum held_sum rest_sum
loop-factor-init c = record {
  held = c.requires.held;
  rest = (record {}, record {});
  sum = λ k.
      let q = c.args.q.now in
      let rows = c.args.matrix.now.rows in
      let all = slice_index c.args.sums.now k ⊕ held_sum q rows k c.args.held in
      ap (λ s. s ⊕ waiting_sum q rows k c.args.waiting.now) (ap (◌⊕◌ all) (zero_add 0) ∙ add_zero all);
}

pub loop-factor-preserved : goal.loop-factor-preserved
loop-factor-preserved c =
    let q = c.args.q.now in
    let rows = c.args.matrix.now.rows in
    let waiting = c.args.waiting.now in
    let i = c.loop-factor.factor in
    record {
      held = c.add_or_leave-left.ensures.held;
      rest = c.add_or_leave-left.ensures.rest;
      sum = λ k.
          let before = slice_index c.loop-factor.sums k ⊕ held_sum q rows k c.loop-factor.left.held ⊕ rest_sum q rows k c.loop-factor.left.rest in
          let here = few_sum q rows k (slice_index_or waiting i Empty) in
          let after = waiting_sum q rows k (drop (i + 1) waiting) in
          ap (λ s. s ⊕ after) (c.add_or_leave-left.ensures.sum k)
          ∙ add_assoc before here after
          ∙ ap (◌⊕◌ before) (sym (waiting-next q rows k waiting i (omega arith)))
          ∙ c.loop-factor.invariant.sum k;
    }

pub add_few-requires-clause-few : goal.add_few-requires-clause-few
add_few-requires-clause-few c = c.few_of.ensures.rows c.args.q.now (are-rows c.args.q.now c.loop-factor.left.held c.loop-factor.invariant.held)

pub returns : goal.returns
unfolding rest_sum
returns c = λ k.
    let q = c.args.q.now in
    let rows = c.args.matrix.now.rows in
    let waiting = c.args.waiting.now in
    let x = slice_index c.loop-factor.sums k in
    let h = held_sum q rows k c.loop-factor.left.held in
    let three = held_sum q rows k c.loop-factor.left.rest.three in
    let few = few_sum q rows k c.loop-factor.left.rest.few in
    c.add_few-3.ensures k
    ∙ ap (λ s. s ⊕ few)
    (c.add_few-2.ensures k
    ∙ ap₂ ◌⊕◌ (c.add_few.ensures k ∙ ap (◌⊕◌ x) (c.few_of.ensures.sum q rows k)) (c.few_of-2.ensures.sum q rows k))
    ∙ add_assoc (x ⊕ h) three few
    ∙ sym (ap (◌⊕◌ (x ⊕ h ⊕ (three ⊕ few))) (waiting-end q rows k waiting c.loop-factor.factor (omega arith)) ∙ add_zero _)
    ∙ c.loop-factor.invariant.sum k

pub add_few-requires-2-clause-few : goal.add_few-requires-2-clause-few
add_few-requires-2-clause-few c = c.few_of-2.ensures.rows c.args.q.now c.loop-factor.invariant.rest.0

pub overflow_cast-factor : goal.overflow_cast-factor
overflow_cast-factor c = omega arith

pub offset_bounds-waiting-factor : goal.offset_bounds-waiting-factor
offset_bounds-waiting-factor c = omega arith

pub bounds-waiting-factor : goal.bounds-waiting-factor
bounds-waiting-factor c = omega arith

pub add_or_leave-left-requires-clause-query : goal.add_or_leave-left-requires-clause-query
add_or_leave-left-requires-clause-query c = c.requires.query

pub add_or_leave-left-requires-clause-room : goal.add_or_leave-left-requires-clause-room
add_or_leave-left-requires-clause-room c = omega arith

pub add_or_leave-left-requires-clause-few : goal.add_or_leave-left-requires-clause-few
add_or_leave-left-requires-clause-few c = c.requires.waiting c.loop-factor.factor (omega arith)

pub add_or_leave-left-requires-clause-held : goal.add_or_leave-left-requires-clause-held
add_or_leave-left-requires-clause-held c = c.loop-factor.invariant.held

pub add_or_leave-left-requires-clause-rest : goal.add_or_leave-left-requires-clause-rest
add_or_leave-left-requires-clause-rest c = c.loop-factor.invariant.rest

pub loop-factor-smaller : goal.loop-factor-smaller
loop-factor-smaller c = omega arith

pub add_few-requires-clause-query : goal.add_few-requires-clause-query
add_few-requires-clause-query c = c.requires.query

pub add_few-requires-clause-room : goal.add_few-requires-clause-room
add_few-requires-clause-room c = omega arith

pub add_few-requires-2-clause-query : goal.add_few-requires-2-clause-query
add_few-requires-2-clause-query c = c.requires.query

pub add_few-requires-2-clause-room : goal.add_few-requires-2-clause-room
add_few-requires-2-clause-room c = omega arith

pub add_few-requires-3-clause-query : goal.add_few-requires-3-clause-query
add_few-requires-3-clause-query c = c.requires.query

pub add_few-requires-3-clause-room : goal.add_few-requires-3-clause-room
add_few-requires-3-clause-room c = omega arith

pub add_few-requires-3-clause-few : goal.add_few-requires-3-clause-few
add_few-requires-3-clause-few c = c.loop-factor.invariant.rest.1
