use Rattle.std.proofs.Common.{◌-◌, length, ◌∙◌, arith}
use Rattle.column_runs.specs.Tile.{given}
use Rattle.column_runs.proofs.MadeSums.{made-put}
use Rattle.column_runs.proofs.sums.extend.Goals as goal

pub returns-then-at-sums : goal.returns-then-at-sums
returns-then-at-sums c = λ k l.
    let sums = c.extend_lanes-at.new.sums in
    let last = length sums - 16 in
    let few = c.extend_lanes-at.ensures.few in
    let size = c.extend_lanes-at.auto.sums ∙ c.extend_lanes-wide.auto.sums ∙ c.extend_blocks-blocks.auto.sums in
    let long = c.if-sums-lt16.false in
    made-put sums c.bytes_at.result (given c.args.first.now c.args.differences.now c.args.factors.now) last c.extend_lanes-at.result
    (omega (arith, few, size, c.requires.same)) (omega (arith, size, long)) c.bytes_at.ensures c.extend_lanes-at.ensures.made k
    (omega (arith, l, size, c.requires.same, long))
