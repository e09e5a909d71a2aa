use Rattle.std.proofs.Common.{◌∙◌, ap, map, string_bytes, arith}
use Rattle.commands.specs.DemoOrder.{words_to_serve}
use Rattle.commands.proofs.Children.{made_more, words_by_address}
use Rattle.commands.proofs.demo_command.words_of_children.Goals as goal

pub returns : goal.returns
returns c = c.children.invariant ∙ words_by_address (words_to_serve c.args.database.now c.args.width) string_bytes c.args.addresses.now c.children.address-index (omega arith)

pub children-preserved : goal.children-preserved
children-preserved c =
    let words = c.in_ok-words_of_child.ensures ∙ ap (words_to_serve c.args.database.now c.args.width) (c.deref.ensures ∙ ap string_bytes c.address-item.is) in
    made_more (λ w. map string_bytes w.items) (λ a. words_to_serve c.args.database.now c.args.width (string_bytes a)) c.children.lists.items _ c.in_ok-words_of_child.field-0 c.args.addresses.now c.children.address-index c.address-item.result c.children-test.true c.children.invariant c.in_ok-push.ensures.items words
