use Rattle.std.proofs.Common.{◌∙◌, ap, map, string_bytes}
use Rattle.commands.proofs.Children.{address_next}
use Rattle.commands.proofs.demo_command.addresses_of_children.Goals as goal

pub children-preserved : goal.children-preserved
children-preserved c = ap (map string_bytes) c.in_ok-push.ensures.items ∙ address_next string_bytes c.args.port c.children.i c.children.addresses.items c.in_ok-address_of_child.field-0 c.children.invariant c.in_ok-address_of_child.ensures
