use Rattle.std.proofs.Common.{arith}
use Rattle.std.specs.Prelude.{Some}
use Rattle.wire_frames.proofs.RecordSteps.{closed_open, closed_bytes, present_spelled}
use Rattle.wire_frames.proofs.records_reader.RecordsReader.close_if_whole.Goals as goal

pub returns-then-self-eq0-clause-open : goal.returns-then-self-eq0-clause-open
returns-then-self-eq0-clause-open c =
    let r = c.args.self.now in
    closed_open r (Some r.records.current) c.close_present.new.self c.truncate.new.self c.requires.steady c.requires.part.few c.if-self-eq0.true
    (omega (arith, c.requires.part.most), c.requires.steady.below) (omega (arith, c.requires.part.most)) c.close_present.ensures c.truncate.ensures

pub returns-then-self-eq0-clause-bytes : goal.returns-then-self-eq0-clause-bytes
returns-then-self-eq0-clause-bytes c =
    let r = c.args.self.now in
    closed_bytes r (Some r.records.current) c.close_present.new.self c.truncate.new.self (present_spelled r c.requires.part c.if-self-eq0.true) c.close_present.ensures c.truncate.ensures
