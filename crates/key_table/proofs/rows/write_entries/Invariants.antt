use Rattle.std.proofs.Common.{◌≡◌, ◌-◌, ◌*◌, take, drop}
use Rattle.std.specs.List.{flat_map}
use Rattle.key_table.specs.Entry.{entry}
use Rattle.key_table.proofs.rows.write_entries.Given as goal

-- the entries before this one are written
abbrev pub invariant-loop-i : goal.invariant-loop-i
invariant-loop-i l = take ((l.i - l.start) * l.step) l.out ≡ flat_map (entry l.entries.most) (take (l.i - l.start) (drop l.start l.entries.pairs))
