use Rattle.std.proofs.Common.{◌+◌, length, ap, ◌∙◌, arith}
use Rattle.std.specs.Prelude.{None}
use Rattle.wire_frames.specs.Layout.{record_header}
use Rattle.wire_frames.proofs.RecordSteps.{closed_open, closed_bytes, absent_spelled}
use Rattle.wire_frames.proofs.records_reader.RecordsReader.begin.Goals as goal

pub returns-in-None-clause-open : goal.returns-in-None-clause-open
returns-in-None-clause-open c =
    closed_open c.args.self.now None c.close_absent.new.self c.truncate.new.self c.requires.steady c.requires.few c.requires.none_left tt
    (omega (arith, ap length c.requires.none_begun)) c.close_absent.ensures c.truncate.ensures

pub returns-in-None-clause-bytes : goal.returns-in-None-clause-bytes
returns-in-None-clause-bytes c =
    let r = c.args.self.now in
    let header = c.requires.header.spelled ∙ ap (record_header (1 + length r.records.closed)) c.in-None.is in
    closed_bytes r None c.close_absent.new.self c.truncate.new.self (absent_spelled r header c.requires.none_begun) c.close_absent.ensures c.truncate.ensures
