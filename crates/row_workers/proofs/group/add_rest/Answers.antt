use Rattle.std.proofs.Common.{◌+◌, ◌∙◌, arith}
use Rattle.row_workers.specs.Group.{group_gives}
use Rattle.row_workers.proofs.PieceSums.{rest-done, rest-kept, part_fits}
use Rattle.row_workers.proofs.group.add_rest.Goals as goal

pub loop-v-preserved : goal.loop-v-preserved
loop-v-preserved g c =
    let group = c.args.group in
    let width = group.matrix.now.width in
    let room = c.loop-v.auto.sums ∙ c.requires.room in
    record {
      done =
          rest-done c.loop-v.sums c.add_few.new.sums c.args.sums.now width group.count c.loop-v.v c.args.from c.args.to c.width-width.result
          c.width-width.ensures.is c.loop-v-test.true room c.add_few.auto.sums c.loop-v.invariant.kept
          (group_gives g.S.GroupSums.gives group) c.add_few.ensures c.loop-v.invariant.done;
      kept =
          rest-kept c.loop-v.sums c.add_few.new.sums c.args.sums.now width group.count c.loop-v.v c.args.from c.args.to c.width-width.result
          c.width-width.ensures.is c.loop-v-test.true room c.add_few.auto.sums c.loop-v.invariant.kept;
    }

pub overflow_cast-width : goal.overflow_cast-width
overflow_cast-width g c = omega arith

pub overflow_add-own : goal.overflow_add-own
overflow_add-own g c = omega arith

pub slice_bounds-own-count : goal.slice_bounds-own-count
slice_bounds-own-count g c = omega arith

pub slice_bounds-own-start : goal.slice_bounds-own-start
slice_bounds-own-start g c = omega arith

pub add_few-requires-clause-few : goal.add_few-requires-clause-few
add_few-requires-clause-few g c = c.requires.few

pub add_few-requires-clause-query : goal.add_few-requires-clause-query
add_few-requires-clause-query g c = c.loop-v-test.true

pub add_few-requires-clause-order : goal.add_few-requires-clause-order
add_few-requires-clause-order g c = c.requires.order

pub add_few-requires-clause-within : goal.add_few-requires-clause-within
add_few-requires-clause-within g c = c.requires.within

pub add_few-requires-clause-queries : goal.add_few-requires-clause-queries
add_few-requires-clause-queries g c = c.requires.queries

pub add_few-requires-clause-room : goal.add_few-requires-clause-room
add_few-requires-clause-room g c = omega arith

pub overflow_mul-own : goal.overflow_mul-own
overflow_mul-own g c = omega (arith, part_fits c.loop-v.v c.args.group.count c.width-width.result _ _ (omega arith) c.width-width.ensures.is c.requires.room)

pub overflow_mul-own-in-loop-v : goal.overflow_mul-own-in-loop-v
overflow_mul-own-in-loop-v g c = omega (arith, part_fits (c.loop-v.v + 1) c.args.group.count c.width-width.result _ _ (omega arith) c.width-width.ensures.is c.requires.room)

pub slice_bounds-own-end : goal.slice_bounds-own-end
slice_bounds-own-end g c = omega (arith, part_fits (c.loop-v.v + 1) c.args.group.count c.width-width.result _ _ (omega arith) c.width-width.ensures.is (c.loop-v.auto.sums ∙ c.requires.room))
