use Rattle.std.proofs.Common.{◌≡◌, map, string_bytes}
use Rattle.std.specs.List.{range_with_len}
use Rattle.commands.specs.DemoOrder.{address_from}
use Rattle.commands.proofs.demo_command.addresses_of_children.Given as goal

-- the addresses of the children before this one are there
abbrev pub invariant-children : goal.invariant-children
invariant-children l = map string_bytes l.addresses.items ≡ map (address_from l.port) (range_with_len 1 l.i)
