use Rattle.std.proofs.Common.{◌≡◌, ◌∙◌, ap, map, string_bytes, subst}
use Rattle.commands.specs.DemoOrder.{DemoOrder, addresses_of_children, words_of_children}
use Rattle.commands.proofs.Demonstrating.{words_are}
use Rattle.commands.proofs.demo_command.demonstrate.Goals as goal

pub fetch_from_children-requires : goal.fetch_from_children-requires
fetch_from_children-requires g c =
    let o = c.order.inside in
    let at = ap (map string_bytes) c.deref-2.ensures.value ∙ c.in-Ok.ensures in
    let words = words_are string_bytes (λ w. map string_bytes w.items) o.database.now o.plan.s o.port o.plan.n c.in-Ok.addresses.items c.deref.result.now c.in-Ok-words_of_children.lists.items c.deref-3.result.now c.in-Ok.ensures c.deref.ensures.value c.in-Ok-words_of_children.ensures c.deref-3.ensures.value in
    record {
      addresses = subst (λ (d : DemoOrder). map string_bytes c.deref-2.result.now ≡ addresses_of_children d) c.order.view_is at;
      words = subst (λ (d : DemoOrder). map (λ w. map string_bytes w.items) c.deref-3.result.now ≡ words_of_children d) c.order.view_is words;
    }

pub returns : goal.returns
returns g c = c.fetch_from_children.ensures
