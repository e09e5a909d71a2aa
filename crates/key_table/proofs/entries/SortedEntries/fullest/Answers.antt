use Rattle.std.proofs.Common.{◌≤◌, length, ap, ◌∙◌, arith}
use Rattle.std.proofs.lemmas.List.{take_all}
use Rattle.key_table.specs.Width.{fullest}
use Rattle.key_table.proofs.Counting.{counted_start}
use Rattle.key_table.proofs.RowOrder.{never_fall}
use Rattle.key_table.proofs.entries.SortedEntries.fullest.Goals as goal

pub loop-entry-init : goal.loop-entry-init
loop-entry-init c = counted_start c.args.rows c.args.self.now.pairs 0

pub count_entry-counted-requires : goal.count_entry-counted-requires
count_entry-counted-requires c =
    omega (arith, c.loop-entry.invariant.few_run, c.loop-entry-test.true, c.count-entries.ensures.count, c.count-entries.ensures.ascend.few)

pub loop-entry-preserved : goal.loop-entry-preserved
loop-entry-preserved c =
    let list = c.args.self.now in
    c.count_entry-counted.ensures c.args.rows list.pairs c.loop-entry.entry (never_fall c.args.rows list c.count-entries.ensures.ascend)
    (omega (arith, c.loop-entry-test.true, c.count-entries.ensures.count)) c.row.ensures.row (c.row.ensures.within c.requires) c.loop-entry.invariant

pub returns-clause-fullest : goal.returns-clause-fullest
returns-clause-fullest c =
    let list = c.args.self.now in
    let whole : length list.pairs ≤ c.loop-entry.entry = omega (arith, c.loop-entry-test.false, c.count-entries.ensures.count) in
    c.loop-entry.invariant.fullest ∙ ap (fullest c.args.rows) (take_all c.loop-entry.entry list.pairs whole)

pub returns-clause-few : goal.returns-clause-few
returns-clause-few c =
    omega (arith, c.loop-entry.invariant.few, c.count-entries.ensures.count, c.count-entries.ensures.ascend.few)
