use Rattle.std.proofs.Common.{◌≡◌, ℕ, ◌+◌, ◌<◌, List, length, get_or, set, inl, inr, sym, ap, ◌∙◌, arith}
use Rattle.std.proofs.lemmas.Bool.{cases_lt}
use Rattle.std.proofs.lemmas.Grind.{get_or-set_at}
use Rattle.std.proofs.lemmas.List.{get_or-set_other, length-set}
use Rattle.gf256.specs.Field.{◌⊕◌, ◌⊗◌}
use Rattle.gs_interpolate.specs.Expansion.{AreRaised}
use Rattle.gs_interpolate.proofs.expansion.raise.Goals as goal

-- one place more
raised-next : (f k x : ℕ) (row now before : List ℕ) → k < length before → x ≡ get_or row k 0 ⊕ f ⊗ get_or now k 0
    → AreRaised f row now before k → AreRaised f row (set now k x) before (k + 1)
raised-next f k x row now before inside is old = record {
  size = length-set now k x ∙ old.size;
  done = λ j l. elim (cases_lt j k) [
    | inl low ↦ get_or-set_other now k j x 0 (omega (arith, low)) ∙ old.done j low
    | inr high ↦
        let here : j ≡ k = omega (arith, l, high) in
        get_or-set_at now k j x 0 here (omega (arith, inside, old.size)) ∙ is
        ∙ ap (λ y. get_or row k 0 ⊕ f ⊗ y) (old.rest k (omega arith)) ∙ ap (λ i. get_or row i 0 ⊕ f ⊗ get_or before i 0) (sym here)
  ];
  rest = λ j l. get_or-set_other now k j x 0 (omega (arith, l)) ∙ old.rest j (omega (arith, l));
}

pub loop-k-preserved : goal.loop-k-preserved
loop-k-preserved c =
    let k = c.loop-k.k in
    let now = c.loop-k.sums in
    let row = c.args.row.now in
    raised-next c.args.products.now k c.add.result row now c.args.sums.now (omega (arith, c.loop-k-test.true, c.loop-k.auto.k-end))
    (c.add.ensures ∙ ap (◌⊕◌ (get_or row k 0)) (c.mul.ensures ∙ ap (λ p. p ⊗ get_or now k 0) c.factor.ensures)) c.loop-k.invariant
