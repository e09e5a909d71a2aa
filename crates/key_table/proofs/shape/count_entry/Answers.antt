use Rattle.key_table.proofs.Counting.{count_more}
use Rattle.key_table.proofs.shape.count_entry.Goals as goal

pub returns : goal.returns
returns c = λ rows pairs done rise lt is low h.
    count_more rows pairs done c.args.counted c.args.row c.run_with-run.result c.max.result rise lt is low h c.run_with-run.ensures c.max.ensures
