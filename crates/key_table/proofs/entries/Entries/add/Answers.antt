use Rattle.std.proofs.Common.{◌≡◌, ◌<◌, ◌++◌, ◌∷◌, [], length, take, sym, ap, subst, ◌∙◌, arith, take_at}
use Rattle.std.specs.Result.{is_ok}
use Rattle.std.proofs.lemmas.List.{length-map}
use Rattle.std.proofs.lemmas.List.FromFn.{length-range_with_len}
use Rattle.key_table.specs.Held.{AreGathered, Held}
use Rattle.key_table.specs.Looked.{pair}
use Rattle.key_table.specs.declared.place.Place.{Place}
use Rattle.key_table.specs.declared.TheConstants.{MOST_PAIRS}
use Rattle.key_table.proofs.Gathered.{as_held, gathered_push, if_true, told_err, told_ok}
use Rattle.key_table.proofs.entries.Entries.add.Goals as goal

pub number_of-requires : goal.number_of-requires
number_of-requires c =
    omega (arith, c.requires.digest, ap (λ (h : Held). h.size) c.self.view_is, c.self.invariant.least)

pub invariant_of-self-then-is_err-2 : goal.invariant_of-self-then-is_err-2
invariant_of-self-then-is_err-2 c =
    let i = c.self.inside in
    let n = c.len-count.result in
    let place : Place = record { number = c.number_of.result; place = n } in
    let pushed : c.push.new.self.items ≡ i.places.items ++ place ∷ [] = if_true (is_ok c.push.result) _ _ _ c.push.ensures.items c.if-is_err.ensures.negation in
    let held = told_err c.add.result _ _ c.add.ensures.same c.if-is_err-2.ensures.negation in
    let long : length i.places.items ≡ n =
    sym (length-map i.places.items (λ (p : Place). p.place)) ∙ ap length c.self.invariant.places ∙ length-range_with_len 0 (length i.pairs.pairs) ∙ sym c.len-count.ensures in
    let back = c.truncate.ensures.items ∙ ap (take n) pushed ∙ take_at i.places.items (place ∷ []) n long in
    subst (λ h. AreGathered h c.truncate.new.self.items) (sym held) (subst (λ ps. AreGathered i.pairs ps) (sym back) c.self.invariant)

pub invariant_of-self-else-is_err-2 : goal.invariant_of-self-else-is_err-2
invariant_of-self-else-is_err-2 c =
    let i = c.self.inside in
    let n = c.len-count.result in
    let d = c.args.digest.now in
    let v = c.args.value.now in
    let place : Place = record { number = c.number_of.result; place = n } in
    let pushed : c.push.new.self.items ≡ i.places.items ++ place ∷ [] = if_true (is_ok c.push.result) _ _ _ c.push.ensures.items c.if-is_err.ensures.negation in
    let held = told_ok c.add.result _ _ c.add.ensures.added c.if-is_err-2.ensures.negation in
    let long : length d ≡ i.pairs.size = c.requires.digest ∙ sym (ap (λ (h : Held). h.size) c.self.view_is) in
    let fewer : length i.pairs.pairs < MOST_PAIRS = omega (arith, c.len-count.ensures, c.if-count-eq-MOST_PAIRS.false, c.self.invariant.few) in
    let more = gathered_push i.pairs i.places.items d v place c.self.invariant long (λ i. (c.type_inv.digest i).fits) fewer c.len-count.ensures c.number_of.ensures in
    subst (λ h. AreGathered h c.push.new.self.items) (sym held)
    (subst (λ ps. AreGathered (as_held i.pairs.size (i.pairs.pairs ++ pair d v ∷ [])) ps) (sym pushed) more)
