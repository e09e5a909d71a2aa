use Rattle.std.proofs.Common.{◌≡◌, ◌<◌, ℕ, length, get_or, refl, sym, ap, ◌∙◌, arith, inl, inr}
use Rattle.std.specs.List.{range_with_len}
use Rattle.std.proofs.Math.Seq.{map-set_same}
use Rattle.std.proofs.lemmas.Bool.{cases_eq}
use Rattle.std.proofs.lemmas.Grind.{get_or-set_at, same_number_lists}
use Rattle.std.proofs.lemmas.List.{get_or-set_other, length-map, map-set}
use Rattle.std.proofs.lemmas.List.FromFn.{get_or-range_with_len, length-range_with_len}
use Rattle.key_table.specs.Numbered.{bare}
use Rattle.key_table.specs.declared.place.Place.{Place}
use Rattle.key_table.proofs.place.count_places.Goals as goal

pub loop-i-init : goal.loop-i-init
loop-i-init c = (refl, λ k lt. absurd (omega (arith, lt)))

pub loop-i-preserved : goal.loop-i-preserved
loop-i-preserved c =
    let ps = c.loop-i.places in
    let i = c.loop-i.i in
    let f : Place → ℕ = λ p. p.place in
    let none : Place = record { number = 0; place = 0 } in
    let new : Place = record { number = (get_or ps i none).number; place = i } in
    let there : i < length (bare ps) = omega (arith, c.loop-i-test.true, c.loop-i.auto.places, length-map ps f) in (
      map-set_same (λ (p : Place). p.number) ps i new none refl ∙ c.loop-i.invariant.0,
      λ k lt.
          let moved = ap (λ ks. get_or ks k 0) (map-set f ps i new) in
          elim (cases_eq k i) [
            | inl same ↦ moved ∙ get_or-set_at (bare ps) i k i 0 same there ∙ sym same
            | inr other ↦ moved ∙ get_or-set_other (bare ps) i k i 0 other ∙ c.loop-i.invariant.1 k (omega (arith, lt, other))
          ],
    )

pub returns-clause-places : goal.returns-clause-places
returns-clause-places c =
    let ps = c.loop-i.places in
    let n = length c.args.places.now in
    let long : length (bare ps) ≡ n = length-map ps (λ (p : Place). p.place) ∙ c.loop-i.auto.places in
    same_number_lists (bare ps) (range_with_len 0 n) (long ∙ sym (length-range_with_len 0 n))
    (λ k lt.
    let low : k < n = omega (arith, lt, long) in
    c.loop-i.invariant.1 k (omega (arith, low, c.loop-i-test.false)) ∙ sym (get_or-range_with_len 0 n k 0 low ∙ omega arith))

pub returns-clause-numbers : goal.returns-clause-numbers
returns-clause-numbers c = c.loop-i.invariant.0
