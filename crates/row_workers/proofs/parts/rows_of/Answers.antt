use Rattle.std.proofs.Common.{◌≤◌, ◌+◌, ◌*◌, ◌/◌, ap₂, arith, mul-le-mul}
use Rattle.quantity_limits.specs.declared.TheConstants.{MOST_ROWS, MOST_WORKERS}
use Rattle.row_workers.proofs.Workers.{first-le_next, first-within}
use Rattle.row_workers.proofs.parts.rows_of.Goals as goal

pub overflow_mul-result : goal.overflow_mul-result
overflow_mul-result c =
    let worker : c.from-worker.result ≤ MOST_WORKERS = omega arith in
    let rows : c.args.rows ≤ MOST_ROWS = omega arith in
    omega (arith, mul-le-mul worker rows)

pub nonzero_div-result : goal.nonzero_div-result
nonzero_div-result c = omega arith

pub overflow_add-result : goal.overflow_add-result
overflow_add-result c = omega arith

pub overflow_mul-result-2 : goal.overflow_mul-result-2
overflow_mul-result-2 c =
    let worker : c.from-worker.result + 1 ≤ MOST_WORKERS = omega arith in
    let rows : c.args.rows ≤ MOST_ROWS = omega arith in
    omega (arith, mul-le-mul worker rows)

pub nonzero_div-result-2 : goal.nonzero_div-result-2
nonzero_div-result-2 c = omega arith

pub returns-clause-from : goal.returns-clause-from
returns-clause-from c = ap₂ (λ w n. w * c.args.rows / n) c.from-worker.ensures c.from-workers.ensures

pub returns-clause-to : goal.returns-clause-to
returns-clause-to c = ap₂ (λ w n. (w + 1) * c.args.rows / n) c.from-worker.ensures c.from-workers.ensures

pub returns-clause-order : goal.returns-clause-order
returns-clause-order c = first-le_next c.args.rows c.from-workers.result c.from-worker.result

pub returns-clause-within : goal.returns-clause-within
returns-clause-within c = first-within c.args.rows c.from-workers.result c.from-worker.result (omega arith)
