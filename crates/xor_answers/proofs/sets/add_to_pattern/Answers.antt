use Rattle.std.proofs.Common.{arith}
use Rattle.xor_answers.proofs.PatternSums.{row-added}
use Rattle.xor_answers.proofs.sets.add_to_pattern.Goals as goal

pub returns : goal.returns
returns c = λ i k l.
    row-added c.args.patterns.now c.add_row.new.acc c.args.row.now _ c.args.pattern i k c.requires (omega arith) l
    c.add_row.auto.acc c.add_row.ensures
