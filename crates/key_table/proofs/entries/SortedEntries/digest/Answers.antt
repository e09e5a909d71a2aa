use Rattle.std.proofs.Common.{◌≡◌, ◌<◌, [], length, map, get_or, sym, ap, subst, ◌∙◌, arith}
use Rattle.std.proofs.lemmas.List.{get_or-map, length-map}
use Rattle.key_table.specs.Entry.{Pair}
use Rattle.key_table.specs.Looked.{pair}
use Rattle.key_table.specs.Numbered.{bare}
use Rattle.key_table.specs.Places.{digest_at, pair_at}
use Rattle.key_table.specs.Sorting.{AreAscending, Sorted}
use Rattle.key_table.specs.declared.place.Place.{Place}
use Rattle.key_table.proofs.entries.SortedEntries.digest.Goals as goal

pub place_at-requires : goal.place_at-requires
place_at-requires c =
    let places = c.self.inside.places.items in
    omega (
      arith,
      c.requires,
      ap (λ (s : Sorted). length s.pairs) c.self.view_is,
      ap length c.as_slice.ensures.value,
      length-map places (λ (p : Place). p.place),
      length-map (bare places) (pair_at c.self.inside.pairs.pairs),
    )

pub returns-clause-digest : goal.returns-clause-digest
returns-clause-digest c =
    let list = c.self.inside.pairs.pairs in
    let places = bare c.self.inside.places.items in
    let k = c.args.entry in
    let many : length (map (pair_at list) places) ≡ length c.args.self.now.pairs = ap (λ (s : Sorted). length s.pairs) c.self.view_is in
    let within : k < length places = omega (arith, c.requires, many, length-map places (pair_at list)) in
    c.digest.ensures ∙ ap (digest_at list) (c.place_at.ensures ∙ ap (λ ps. get_or (bare ps) k 0) c.as_slice.ensures.value)
    ∙ sym (ap (λ (p : Pair). p.digest) (get_or-map (pair_at list) places k 0 (pair [] []) within))
    ∙ ap (λ (s : Sorted). digest_at s.pairs k) c.self.view_is

pub returns-clause-size : goal.returns-clause-size
returns-clause-size c =
    let h = subst AreAscending c.self.view_is c.self.invariant.ascend in
    ap length (returns-clause-digest c) ∙ (h.sizes c.args.entry (pair [] []) c.requires).digest_size

pub returns-clause-least : goal.returns-clause-least
returns-clause-least c =
    let h = subst AreAscending c.self.view_is c.self.invariant.ascend in
    omega (arith, returns-clause-size c, h.least)
