use Rattle.std.proofs.Common.{◌≡◌, List, length, drop, sym, ap, subst, ◌∙◌, take_at}
use Rattle.std.specs.List.{range_with_len}
use Rattle.key_table.specs.Entry.{Pair}
use Rattle.key_table.specs.Held.{Held}
use Rattle.key_table.specs.Numbered.{bare, numbers, pairs_at}
use Rattle.key_table.specs.Sorting.{AreAscending, AreKept, kept}
use Rattle.key_table.proofs.Gathered.{as_held}
use Rattle.key_table.proofs.Numbered.{as_sorted, numbers_counted, pairs_counted}
use Rattle.key_table.proofs.entries.SortedEntries.side_by_side.Goals as goal

pub invariant_of-result-2 : goal.invariant_of-result-2
invariant_of-result-2 c =
    let i = c.self.inside in
    let list = i.pairs.pairs in
    let places = i.places.items in
    let new = c.count_places.new.places in
    let order : bare new ≡ range_with_len 0 (length places) =
    c.count_places.ensures.places ∙ ap (λ ps. range_with_len 0 (length ps)) c.deref_mut.ensures.value in
    let same : numbers new ≡ numbers places = c.count_places.ensures.numbers ∙ ap numbers c.deref_mut.ensures.value in
    let copy : c.in-Ok.copy ≡ as_held i.pairs.size (pairs_at list places) =
    c.in-Ok.ensures ∙ ap (λ ps. as_held i.pairs.size (pairs_at list ps)) c.deref.ensures.value in
    let items = take_at new (drop (length new) places) i.places.len (c.count_places.auto.places ∙ c.deref_mut.ensures.len) in
    subst (AreKept c.in-Ok.copy i.most) (sym items)
    (subst (λ (h : Held). AreKept h i.most new) (sym copy) (record {
      ascend = subst (λ (qs : List Pair). AreAscending (as_sorted i.pairs.size i.most qs))
          (sym (pairs_counted list places new order)) c.self.invariant.ascend;
      numbers = numbers_counted list places new order same c.self.invariant.numbers;
    }))

pub returns : goal.returns
returns c =
    let i = c.self.inside in
    let list = i.pairs.pairs in
    let places = i.places.items in
    let new = c.count_places.new.places in
    let order : bare new ≡ range_with_len 0 (length places) =
    c.count_places.ensures.places ∙ ap (λ ps. range_with_len 0 (length ps)) c.deref_mut.ensures.value in
    let copy : c.in-Ok.copy ≡ as_held i.pairs.size (pairs_at list places) =
    c.in-Ok.ensures ∙ ap (λ ps. as_held i.pairs.size (pairs_at list ps)) c.deref.ensures.value in
    let items = take_at new (drop (length new) places) i.places.len (c.count_places.auto.places ∙ c.deref_mut.ensures.len) in
    ap (kept c.in-Ok.copy i.most) items
    ∙ ap (λ (h : Held). kept h i.most new) copy
    ∙ ap (λ (qs : List Pair). as_sorted i.pairs.size i.most qs) (pairs_counted list places new order)
    ∙ c.self.view_is
