use Rattle.std.proofs.Common.{◌≡◌, ◌++◌, drop, map, option_map, string_bytes}
use Rattle.toml.specs.View.{items_view}
use Rattle.list_catalog.specs.Documents.{texts}
use Rattle.list_catalog.proofs.read.copied_texts.Given as goal

abbrev pub invariant-items : goal.invariant-items
invariant-items l =
    texts (items_view l.item-items)
    ≡ option_map (λ more. map string_bytes l.copies.items ++ more) (texts (items_view (drop l.item-index l.item-items)))
