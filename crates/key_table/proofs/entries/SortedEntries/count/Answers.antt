use Rattle.std.proofs.Common.{length, sym, ap, subst, ◌∙◌}
use Rattle.std.proofs.lemmas.List.{length-map}
use Rattle.key_table.specs.Numbered.{bare}
use Rattle.key_table.specs.Places.{pair_at}
use Rattle.key_table.specs.Sorting.{AreAscending, Sorted}
use Rattle.key_table.specs.declared.place.Place.{Place}
use Rattle.key_table.proofs.entries.SortedEntries.count.Goals as goal

pub returns-clause-count : goal.returns-clause-count
returns-clause-count c =
    let places = c.self.inside.places.items in
    ap length c.as_slice.ensures.value ∙ sym (length-map places (λ (p : Place). p.place))
    ∙ sym (length-map (bare places) (pair_at c.self.inside.pairs.pairs))
    ∙ ap (λ (s : Sorted). length s.pairs) c.self.view_is

pub returns-clause-ascend : goal.returns-clause-ascend
returns-clause-ascend c = subst AreAscending c.self.view_is c.self.invariant.ascend
