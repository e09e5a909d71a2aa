use Rattle.std.proofs.Common.{◌≡◌, ◌≤◌, ◌<◌, ℕ, List, [], length, map, get_or, sym, ap, subst, ◌∙◌, arith}
use Rattle.std.proofs.lemmas.List.{get_or-map, length-map}
use Rattle.key_table.specs.Entry.{Pair}
use Rattle.key_table.specs.Looked.{pair}
use Rattle.key_table.specs.Numbered.{bare}
use Rattle.key_table.specs.Places.{pair_at, value_at}
use Rattle.key_table.specs.Sorting.{AreAscending, Sorted}
use Rattle.key_table.specs.declared.place.Place.{Place}
use Rattle.key_table.proofs.entries.SortedEntries.value.Goals as goal

pub place_at-requires : goal.place_at-requires
place_at-requires c =
    let places = c.self.inside.places.items in
    omega (
      arith,
      c.requires,
      ap (λ (s : Sorted). length s.pairs) c.self.view_is,
      ap length c.as_slice.ensures.value,
      length-map places (λ (p : Place). p.place),
      length-map (bare places) (pair_at c.self.inside.pairs.pairs),
    )

pub returns-clause-value : goal.returns-clause-value
returns-clause-value c =
    let list = c.self.inside.pairs.pairs in
    let places = bare c.self.inside.places.items in
    let k = c.args.entry in
    let many : length (map (pair_at list) places) ≡ length c.args.self.now.pairs = ap (λ (s : Sorted). length s.pairs) c.self.view_is in
    let within : k < length places = omega (arith, c.requires, many, length-map places (pair_at list)) in
    c.value.ensures ∙ ap (value_at list) (c.place_at.ensures ∙ ap (λ ps. get_or (bare ps) k 0) c.as_slice.ensures.value)
    ∙ sym (ap (λ (p : Pair). p.value) (get_or-map (pair_at list) places k 0 (pair [] []) within))
    ∙ ap (λ (s : Sorted). value_at s.pairs k) c.self.view_is

pub returns-clause-few : goal.returns-clause-few
returns-clause-few c =
    let h = subst AreAscending c.self.view_is c.self.invariant.ascend in
    let few = (h.sizes c.args.entry (pair [] []) c.requires).few in
    subst (λ (v : List ℕ). length v ≤ c.args.self.now.most) (sym (returns-clause-value c)) few
