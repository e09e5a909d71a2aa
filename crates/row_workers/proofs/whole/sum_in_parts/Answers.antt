use Rattle.std.proofs.Common.{◌≡◌, length, slice_index, arith}
use Rattle.gf256.proofs.FlatRows.{row_within}
use Rattle.row_workers.proofs.Workers.{none-added, part-added, all-added}
use Rattle.row_workers.proofs.whole.sum_in_parts.Goals as goal

pub loop-worker-init : goal.loop-worker-init
loop-worker-init g c = λ p lt.
    let sums = c.args.sums.now in
    none-added (g.S.RowSums.gives sums) (g.S.RowSums.row_count sums) c.args.workers p (slice_index c.clear.new.row p) (c.clear.ensures p)

pub loop-worker-preserved : goal.loop-worker-preserved
loop-worker-preserved g c = λ p lt.
    let sums = c.args.sums.now in
    let worker = c.loop-worker.worker in
    part-added (g.S.RowSums.gives sums) (g.S.RowSums.row_count sums) c.args.workers worker p (length c.args.out.now) c.run_on_parts.new.parts
    (slice_index c.add_row.new.acc p) (slice_index c.loop-worker.out p) (c.add_row.ensures p) (c.loop-worker.invariant p lt) (c.run_on_parts.ensures worker (omega arith) p lt)

pub returns : goal.returns
returns g c = λ p lt.
    let sums = c.args.sums.now in
    let worker = c.loop-worker.worker in
    let end : worker ≡ c.args.workers = omega arith in
    all-added (g.S.RowSums.gives sums) (g.S.RowSums.row_count sums) c.args.workers worker p (slice_index c.loop-worker.out p) end c.requires.some
    (c.loop-worker.invariant p lt)

pub overflow_cast-start : goal.overflow_cast-start
overflow_cast-start g c = omega arith

pub slice_bounds-add_row-count : goal.slice_bounds-add_row-count
slice_bounds-add_row-count g c = omega arith

pub slice_bounds-add_row-start : goal.slice_bounds-add_row-start
slice_bounds-add_row-start g c = omega arith

pub add_row-requires : goal.add_row-requires
add_row-requires g c = omega arith

pub overflow_mul-start : goal.overflow_mul-start
overflow_mul-start g c =
    omega (arith, row_within c.loop-worker.worker c.args.workers (length c.args.out.now) (omega arith), c.requires.scratch)

pub overflow_add-start : goal.overflow_add-start
overflow_add-start g c =
    omega (arith, row_within c.loop-worker.worker c.args.workers (length c.args.out.now) (omega arith), c.requires.scratch)

pub slice_bounds-add_row-end : goal.slice_bounds-add_row-end
slice_bounds-add_row-end g c =
    omega (arith, row_within c.loop-worker.worker c.args.workers (length c.args.out.now) (omega arith), c.requires.scratch)
