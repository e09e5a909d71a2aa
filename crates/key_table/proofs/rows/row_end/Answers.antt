use Rattle.std.proofs.Common.{◌+◌, ◌<◌, arith, below_more}
use Rattle.key_table.specs.Counting.{row_at}
use Rattle.key_table.proofs.RowOrder.{never_fall}
use Rattle.key_table.proofs.rows.row_end.Goals as goal

pub loop-entry-init : goal.loop-entry-init
loop-entry-init c = λ k lt. let low = c.requires.before k lt in omega (arith, low)

pub loop-entry-preserved : goal.loop-entry-preserved
loop-entry-preserved c =
    below_more (λ k. row_at c.args.rows c.args.entries.now.pairs k < c.args.j + 1) c.loop-entry.entry c.loop-entry.invariant
    (omega (arith, c.row.ensures.row, c.if-row-j.false))

pub returns-then-row-j : goal.returns-then-row-j
returns-then-row-j c =
    let list = c.args.entries.now in
    let i = c.loop-entry.entry in
    let there : i < c.count-count.result = c.loop-entry-test.true in
    record {
      within = omega (arith, there, c.count-count.ensures.count);
      before = c.loop-entry.invariant;
      behind = λ k le lt.
          let rise = never_fall c.args.rows list c.count-count.ensures.ascend i k le lt in
          let own = c.requires.behind i (omega arith) (omega (arith, there, c.count-count.ensures.count)) in
          omega (arith, rise, own, c.row.ensures.row, c.if-row-j.true);
    }

pub returns : goal.returns
returns c = record {
  within = omega (arith, c.count-count.ensures.count);
  before = λ k lt. c.loop-entry.invariant k (omega (arith, lt, c.loop-entry-test.false));
  behind = λ k le lt. absurd (omega (arith, le, lt, c.count-count.ensures.count));
}
