use Rattle.std.proofs.Common.{◌≢◌, take, All}
use Rattle.key_table.specs.Entry.{newline}
use Rattle.key_table.proofs.entry.has_no_newline.Given as goal

abbrev pub invariant-loop-b : goal.invariant-loop-b
invariant-loop-b l = All (λ b. b ≢ newline) (take l.b-index l.bytes)
