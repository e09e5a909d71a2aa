use Rattle.std.proofs.Common.{◌∙◌, ◌*◌, ℕ, ap}
use Rattle.wire_frames.specs.Records.{nothing_kept}
use Rattle.wire_frames.proofs.RecordSteps.{new_open}
use Rattle.wire_frames.proofs.records_reader.RecordsReader.new.Goals as goal

pub returns-clause-open : goal.returns-clause-open
returns-clause-open c = new_open c.args.params c.in_ok-records.records c.new.result c.from-servers.result c.requires c.from-servers.ensures (c.in_ok-records.ensures ∙ ap (λ (k : ℕ). nothing_kept c.from-servers.result (c.from-servers.result * k)) c.answer_len.ensures) c.new.ensures
