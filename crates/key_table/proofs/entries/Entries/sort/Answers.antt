use Rattle.std.proofs.Common.{◌≡◌, ◌≤◌, ℕ, length, map, All, Ok, refl, sym, ap, subst, ◌∙◌}
use Rattle.std.specs.List.{dedup}
use Rattle.std.proofs.lemmas.List.{length-map}
use Rattle.std.proofs.lemmas.List.FromFn.{length-range_with_len}
use Rattle.std.proofs.lemmas.List.Sorted.{length_permutation}
use Rattle.key_table.specs.Entry.{Pair}
use Rattle.key_table.specs.Held.{Held}
use Rattle.key_table.specs.KeyList.{AreSorted, IsClear}
use Rattle.key_table.specs.Numbered.{AreNumbered, bare}
use Rattle.key_table.specs.Places.{has_same_digest, pair_at}
use Rattle.key_table.specs.Scan.{AreOrdered}
use Rattle.key_table.specs.Sorting.{AreAscending, AreKept, Sorted, Sorts}
use Rattle.key_table.specs.declared.place.Place.{Place}
use Rattle.key_table.proofs.Numbered.{bare_kept, numbers_kept, numbers_moved, ordered_from_numbers}
use Rattle.key_table.proofs.SortedPairs.{kept_ascending, kept_sorted}
use Rattle.key_table.proofs.entries.Entries.sort.Goals as goal

pub clash_among-requires-clause-ordered : goal.clash_among-requires-clause-ordered
clash_among-requires-clause-ordered c =
    let i = c.self.inside in
    let places = c.sort_places.new.places.items in
    subst (λ ps. AreOrdered i.pairs.pairs (bare ps)) (sym c.deref.ensures.value)
    (ordered_from_numbers i.pairs i.places.items c.self.invariant places c.sort_places.ensures.moved c.sort_places.ensures.sorted)

pub clash_among-requires-clause-numbered : goal.clash_among-requires-clause-numbered
clash_among-requires-clause-numbered c =
    let i = c.self.inside in
    subst (AreNumbered i.pairs.pairs) (sym c.deref.ensures.value)
    (numbers_moved i.pairs i.places.items c.self.invariant c.sort_places.new.places.items c.sort_places.ensures.moved)

pub invariant_of-sorted : goal.invariant_of-sorted
invariant_of-sorted c =
    let i = c.self.inside in
    let list = i.pairs.pairs in
    let places = c.sort_places.new.places.items in
    let moved = c.sort_places.ensures.moved in
    let numbered = numbers_moved i.pairs i.places.items c.self.invariant places moved in
    let ordered = ordered_from_numbers i.pairs i.places.items c.self.invariant places moved c.sort_places.ensures.sorted in
    let f : Place → ℕ = λ p. p.place in
    let whole : length (bare places) ≡ length list =
    length-map places f ∙ length_permutation i.places.items places moved ∙ sym (length-map i.places.items f) ∙ ap length c.self.invariant.places
    ∙ length-range_with_len 0 (length list) in
    let values = subst (λ (h : Held). All (λ (p : Pair). length p.value ≤ c.args.most) h.pairs) (sym c.self.view_is) c.requires.values in
    let up = kept_ascending list i.pairs.size c.args.most i.places.items (bare places) c.self.invariant ordered whole values c.in_default.ensures c.requires.most in
    subst (AreKept i.pairs c.args.most) (sym c.keep_firsts.ensures) (record {
      ascend = subst (λ ks. AreAscending (record { size = i.pairs.size; most = c.args.most; pairs = map (pair_at list) ks })) (sym (bare_kept list places numbered)) up;
      numbers = numbers_kept list places numbered;
    })

pub returns : goal.returns
returns c =
    let i = c.self.inside in
    let list = i.pairs.pairs in
    let places = c.sort_places.new.places.items in
    let ordered = ordered_from_numbers i.pairs i.places.items c.self.invariant places c.sort_places.ensures.moved c.sort_places.ensures.sorted in
    let clear : IsClear list = c.in_default.ensures in
    let sorted = kept_sorted list i.pairs.size c.args.most (bare places) ordered c.self.invariant.sizes clear in
    let kept : dedup (has_same_digest list) (bare places) ≡ bare c.keep_firsts.new.places.items =
    sym (bare_kept list places (numbers_moved i.pairs i.places.items c.self.invariant places c.sort_places.ensures.moved)) ∙ ap bare (sym c.keep_firsts.ensures) in
    subst (λ (s : Sorted). Sorts c.args.self c.args.most (Ok s)) (sym c.side_by_side.ensures) (
      ap (λ (h : Held). h.size) c.self.view_is,
      refl,
      subst (λ (h : Held). IsClear h.pairs) c.self.view_is clear,
      subst (λ (h : Held). AreSorted c.args.most h.pairs (map (pair_at list) (bare c.keep_firsts.new.places.items))) c.self.view_is
          (subst (λ ks. AreSorted c.args.most list (map (pair_at list) ks)) kept sorted),
    )
