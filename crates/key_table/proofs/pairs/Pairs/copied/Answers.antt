use Rattle.std.proofs.Common.{◌≡◌, ◌≤◌, List, ◌++◌, ◌∷◌, [], length, get_or, sym, ap, ap₂, ◌∙◌, arith}
use Rattle.std.proofs.lemmas.List.{take_all, take_more}
use Rattle.key_table.specs.Entry.{Pair}
use Rattle.key_table.specs.Held.{Held}
use Rattle.key_table.specs.Looked.{pair}
use Rattle.key_table.specs.Numbered.{pairs_at}
use Rattle.key_table.specs.declared.place.Place.{Place}
use Rattle.key_table.proofs.Gathered.{as_held}
use Rattle.key_table.proofs.Numbered.{pair_at_place, pairs_at_count}
use Rattle.key_table.proofs.pairs.Pairs.copied.Goals as goal

pub loop-i-init : goal.loop-i-init
loop-i-init c = c.new_beside-copy.ensures

pub add-requires-clause-digest : goal.add-requires-clause-digest
add-requires-clause-digest c =
    let list = c.args.self.now.pairs in
    let ps = c.args.places.now in
    let i = c.loop-i.i in
    let none : Place = record { number = 0; place = 0 } in
    let there = c.loop-i-test.true in
    let is = pair_at_place list ps i none there in
    let sizes = c.requires i (pair [] []) (omega (arith, there, pairs_at_count list ps)) in
    ap length c.digest.ensures ∙ ap (λ (p : Pair). length p.digest) (sym is) ∙ sizes.digest_size
    ∙ sym (ap (λ (h : Held). h.size) c.loop-i.invariant)

pub add-requires-clause-value : goal.add-requires-clause-value
add-requires-clause-value c =
    let list = c.args.self.now.pairs in
    let ps = c.args.places.now in
    let i = c.loop-i.i in
    let none : Place = record { number = 0; place = 0 } in
    let there = c.loop-i-test.true in
    let is = pair_at_place list ps i none there in
    let sizes = c.requires i (pair [] []) (omega (arith, there, pairs_at_count list ps)) in
    omega (arith, ap length c.value.ensures, ap (λ (p : Pair). length p.value) is, sizes.few)

pub loop-i-preserved : goal.loop-i-preserved
loop-i-preserved c =
    let list = c.args.self.now.pairs in
    let ps = c.args.places.now in
    let i = c.loop-i.i in
    let none : Place = record { number = 0; place = 0 } in
    let there = c.loop-i-test.true in
    let is = pair_at_place list ps i none there in
    let one : pair c.digest.result.now c.value.result.now ≡ get_or (pairs_at list ps) i (pair [] []) =
    ap₂ pair c.digest.ensures c.value.ensures ∙ sym is in
    c.in_ok-add.ensures.added
    ∙ ap₂ as_held (ap (λ (h : Held). h.size) c.loop-i.invariant)
    (ap₂ (λ (qs : List Pair) q. qs ++ q ∷ []) (ap (λ (h : Held). h.pairs) c.loop-i.invariant) one
    ∙ sym (take_more (pairs_at list ps) i (pair [] []) (omega (arith, there, pairs_at_count list ps))))

pub returns : goal.returns
returns c =
    let all = pairs_at c.args.self.now.pairs c.args.places.now in
    let whole : length all ≤ c.loop-i.i = omega (arith, c.loop-i-test.false, pairs_at_count c.args.self.now.pairs c.args.places.now) in
    c.loop-i.invariant ∙ ap (as_held c.args.self.now.size) (take_all c.loop-i.i all whole)
