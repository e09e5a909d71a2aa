use Rattle.std.proofs.Common.{length}
use Rattle.key_table.specs.Table.{AreEntries}
use Rattle.key_table.proofs.Rests.{Left}
use Rattle.key_table.proofs.row.are_entries.Given as goal

-- the bytes are entries of the row exactly where those that are left are
abbrev pub invariant-entries : goal.invariant-entries
invariant-entries l = record {
  forth : AreEntries l.size l.most l.rows l.j l.bytes → Left l.size l.most l.rows l.j l.last l.rest;
  back : Left l.size l.most l.rows l.j l.last l.rest → AreEntries l.size l.most l.rows l.j l.bytes;
}

abbrev pub decreases-entries : goal.decreases-entries
decreases-entries l = length l.rest
