use Rattle.std.proofs.Common.{◌≡◌, ℕ, List, ◌+◌, ◌-◌, ◌*◌, ◌<◌, ◌≤◌, length, get_or, take, drop, inl, inr, sym, ap, ap₂, subst, ◌∙◌, arith}
use borrow.Rule.Slice.PartMut.{put_mid}
use Rattle.std.proofs.lemmas.Bool.{cases_lt}
use Rattle.gf256.specs.Field.{◌⊕◌, ◌⊗◌}
use Rattle.gf256.proofs.FlatRows.{row_within}
use Rattle.gs_interpolate.specs.Expansion.{AreHalvesAdded}
use Rattle.gs_interpolate.proofs.Places.{part_here, part_elsewhere, part_size, part_before, length-part}
use Rattle.gs_interpolate.proofs.expansion.add_halves.Goals as goal

-- one pair more
halves-next : (f s p : ℕ) (now before made : List ℕ) → p * (s + s) + (s + s) ≤ length now → length made ≡ s + s
    → ((k : ℕ) → k < s → get_or made k 0 ≡ get_or (take (s + s) (drop (p * (s + s)) now)) k 0 ⊕ f ⊗ get_or (take (s + s) (drop (p * (s + s)) now)) (s + k) 0)
    → ((k : ℕ) → k < s → get_or made (s + k) 0 ≡ get_or (take (s + s) (drop (p * (s + s)) now)) (s + k) 0)
    → AreHalvesAdded f s p now before → AreHalvesAdded f s (p + 1) (put_mid (p * (s + s)) (s + s) now made) before
halves-next f s p now before made room size first second old =
    let w = s + s in
    let at = p * w in
    let all = put_mid at w now made in
    let next : at + w ≤ (p + 1) * w = row_within p (p + 1) w (omega arith) in
    let own : (k : ℕ) → k < w → get_or (take w (drop at now)) k 0 ≡ get_or before (at + k) 0 = λ k l.
    part_before now at w k l ∙ old.rest (at + k) (omega arith) in
    let others : (q k : ℕ) → q < p → k < w → get_or all (q * w + k) 0 ≡ get_or now (q * w + k) 0 = λ q k l h.
    let fit = row_within q p w l in
    part_elsewhere now made at w (q * w + k) room size (inl (omega (arith, fit, h))) in
    let here : (k : ℕ) → k < w → get_or all (at + k) 0 ≡ get_or made k 0 = λ k l. part_here now made at w k room size l in
    record {
      size = part_size now made at w room size ∙ old.size;
      first = λ q k l h. elim (cases_lt q p) [
        | inl low ↦ others q k low (omega (arith, h)) ∙ old.first q k low h
        | inr high ↦
            let same : p ≡ q = omega (arith, l, high) in
            subst (λ q. get_or all (q * w + k) 0 ≡ get_or before (q * w + k) 0 ⊕ f ⊗ get_or before (q * w + (s + k)) 0) same
            (here k (omega (arith, h)) ∙ first k h ∙ ap₂ (λ x y. x ⊕ f ⊗ y) (own k (omega (arith, h))) (own (s + k) (omega (arith, h))))
      ];
      second = λ q k l h. elim (cases_lt q p) [
        | inl low ↦ others q (s + k) low (omega (arith, h)) ∙ old.second q k low h
        | inr high ↦
            let same : p ≡ q = omega (arith, l, high) in
            subst (λ q. get_or all (q * w + (s + k)) 0 ≡ get_or before (q * w + (s + k)) 0) same
            (here (s + k) (omega (arith, h)) ∙ second k h ∙ own (s + k) (omega (arith, h)))
      ];
      rest = λ k l. part_elsewhere now made at w k room size (inr (omega (arith, l, next))) ∙ old.rest k (omega (arith, l, next));
    }

pub loop-pair-preserved : goal.loop-pair-preserved
loop-pair-preserved c =
    let f = c.args.factor in
    let s = c.args.size in
    let w = s + s in
    let p = c.loop-pair.pair in
    let now = c.loop-pair.cells in
    let made = c.add_half.new.pair in
    let fit = row_within p c.args.pairs w c.loop-pair-test.true in
    let room : p * w + w ≤ length now = omega (arith, fit, c.requires, c.loop-pair.auto.cells) in
    let whole : p * w + w - p * w ≡ w = omega arith in
    let size = c.add_half.auto.pair ∙ ap (λ k. length (take k (drop (p * w) now))) whole ∙ length-part now (p * w) w room in
    subst (λ k. AreHalvesAdded f s (p + 1) (put_mid (p * w) k now made) c.args.cells.now) (sym whole)
    (halves-next f s p now c.args.cells.now made room size
    (subst (λ n. (k : ℕ) → k < s → get_or made k 0 ≡ get_or (take n (drop (p * w) now)) k 0 ⊕ f ⊗ get_or (take n (drop (p * w) now)) (s + k) 0) whole c.add_half.ensures.first)
    (subst (λ n. (k : ℕ) → k < s → get_or made (s + k) 0 ≡ get_or (take n (drop (p * w) now)) (s + k) 0) whole c.add_half.ensures.second) c.loop-pair.invariant)
