use Rattle.std.proofs.Common.{◌≡◌, map, take, string_bytes}
use Rattle.commands.specs.DemoOrder.{words_to_serve}
use Rattle.commands.proofs.demo_command.words_of_children.Given as goal

-- the words of the children before this one are there
abbrev pub invariant-children : goal.invariant-children
invariant-children l = map (λ w. map string_bytes w.items) l.lists.items ≡ map (λ a. words_to_serve l.database l.width (string_bytes a)) (take l.address-index l.addresses)
