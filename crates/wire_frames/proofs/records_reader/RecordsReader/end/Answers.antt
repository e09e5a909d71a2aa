use Rattle.std.proofs.Common.{◌≡◌, ◌≤◌, ℕ, subst, sym, arith}
use Rattle.wire_frames.proofs.RecordSteps.{open_short, open_whole}
use Rattle.wire_frames.specs.RecordsReader.{bytes_so_far}
use Rattle.wire_frames.specs.Session.{Transcript, IsSession}
use Rattle.wire_frames.proofs.records_reader.RecordsReader.end.Goals as goal

pub returns-then-len-from : goal.returns-then-len-from
returns-then-len-from c = open_short c.args.self c.requires (omega (arith, c.len.ensures.count, c.from.ensures, c.if-len-from.true))

-- all records have come
all_come : (servers count closed n : ℕ) → servers ≤ count → count ≡ closed → servers ≡ n → n ≤ closed
all_come servers count closed n enough is_count is_servers = omega (arith, enough, is_count, is_servers)

pub from_records-requires : goal.from_records-requires
from_records-requires c = (open_whole c.args.self c.requires (all_come _ _ _ _ c.if-len-from.false c.len.ensures.count c.from.ensures)).0

pub returns : goal.returns
returns c =
    let whole = open_whole c.args.self c.requires (all_come _ _ _ _ c.if-len-from.false c.len.ensures.count c.from.ensures) in
    subst (λ (t : Transcript). IsSession (bytes_so_far c.args.self) t) (sym c.from_records.ensures) whole.1
