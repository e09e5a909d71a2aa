use Rattle.std.proofs.Common.{◌≡◌, false, take}
use Rattle.std.specs.List.{list_any}
use Rattle.list_tool.specs.Status.{is_absent}
use Rattle.list_tool.proofs.status.has_absent.Given as goal

-- the list has each key before this one, or nothing is known of it
abbrev pub invariant-places : goal.invariant-places
invariant-places l = list_any is_absent (take l.place l.finds.answers) ≡ false
