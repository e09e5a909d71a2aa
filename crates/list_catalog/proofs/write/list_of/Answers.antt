use Rattle.std.proofs.Common.{◌≡◌, ◌+◌, ◌++◌, ◌∷◌, [], ap, arith, map, string_bytes, sym, take, ◌∙◌}
use Rattle.std.proofs.lemmas.Grind.{common_steps}
use Rattle.toml.specs.View.{items_view, view}
use Rattle.toml.specs.Data.{push_item, string}
use Rattle.toml.proofs.Views.{items_view-push}
use Rattle.list_catalog.specs.Writing.{items_of}
use Rattle.list_catalog.proofs.Puts.{items_of-push}
use Rattle.list_catalog.proofs.write.list_of.Goals as goal

pub loop-text-preserved : goal.loop-text-preserved
loop-text-preserved c =
    let one : view c.in_ok-string.field-0 ≡ string (string_bytes c.text-item.result) = c.in_ok-string.ensures ∙ ap string c.as_str.ensures.value in
    let more : map string_bytes (take (c.loop-text.text-index + 1) c.args.texts.now)
    ≡ map string_bytes (take c.loop-text.text-index c.args.texts.now) ++ string_bytes c.text-item.result ∷ [] = grind (arith, common_steps) in
    ap items_view c.in_ok-push.ensures.items
    ∙ items_view-push c.loop-text.list.items c.in_ok-string.field-0
    ∙ ap (push_item (items_view c.loop-text.list.items)) one
    ∙ ap (λ ds. push_item ds (string (string_bytes c.text-item.result))) c.loop-text.invariant
    ∙ items_of-push (map string_bytes (take c.loop-text.text-index c.args.texts.now)) (string_bytes c.text-item.result)
    ∙ ap items_of (sym more)
