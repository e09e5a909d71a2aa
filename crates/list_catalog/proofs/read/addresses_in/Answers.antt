use Rattle.std.proofs.Common.{◌≡◌, List, ℕ, Some, ap, map, string_bytes, subst, sym, ◌∙◌}
use Rattle.toml.specs.View.{array_view, table_view, view}
use Rattle.list_catalog.specs.Documents.{addresses_among, addresses_in, all_texts, texts}
use Rattle.list_catalog.specs.Reading.{ComesAs}
use Rattle.list_catalog.proofs.Lookups.{is_array, no_texts}
use Rattle.list_catalog.proofs.read.addresses_in.Goals as goal

pub returns-in-Some-as_array : goal.returns-in-Some-as_array
unfolding addresses_in
returns-in-Some-as_array c =
    let same : all_texts (texts (array_view c.in-Some-as_array.list.now)) ≡ addresses_in (table_view c.args.table.now) =
    ap (λ d. addresses_among (Some d)) (sym (is_array (view c.in-Some.value.now) (array_view c.in-Some-as_array.list.now) c.in-Some-as_array.ensures))
    ∙ ap addresses_among c.in-Some.ensures in
    rw (← same) c.copied_texts.ensures

pub returns-in-None : goal.returns-in-None
unfolding addresses_in
returns-in-None c =
    sym (sym (no_texts (view c.in-Some.value.now) c.in-None.ensures) ∙ ap addresses_among c.in-Some.ensures)
