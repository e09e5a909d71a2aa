use Rattle.std.proofs.Common.{◌++◌, ap₂}
use Rattle.key_table.specs.Entry.{entry}
use Rattle.key_table.proofs.write.write_entry.Goals as goal

pub returns : goal.returns
unfolding entry
returns c = ap₂ (λ x y. x ++ y) c.copy_from_slice.ensures.after c.write_value.ensures
