use Rattle.std.proofs.Common.{◌≡◌, ℕ, List, ◌+◌, ◌<◌, length, get_or, set, sym, ap, ◌∙◌, inl, inr, arith, length-set, get_or-set_same, get_or-set_other}
use Rattle.std.proofs.lemmas.Bool.{cases_eq}
use Rattle.gf256.specs.Field.{◌⊗◌, power}
use Rattle.shamir_share.proofs.products.ProductTable.of.Goals as goal

-- one product more
next : (table : List ℕ) (a x v : ℕ) → x < length table → v ≡ a ⊗ x → ((k : ℕ) → k < x → get_or table k 0 ≡ a ⊗ k) → (k : ℕ) → k < x + 1 → get_or (set table x v) k 0 ≡ a ⊗ k
next table a x v lt is before k below =
    elim (cases_eq k x) [
      | inl e ↦ ap (λ j. get_or (set table x v) j 0) e ∙ get_or-set_same table x v 0 lt ∙ is ∙ ap (◌⊗◌ a) (sym e)
      | inr n ↦ get_or-set_other table x k v 0 n ∙ before k (omega arith)
    ]

pub loop-x-preserved : goal.loop-x-preserved
loop-x-preserved c =
    let table = c.loop-x.table in
    let x = c.loop-x.x in
    record {
      size = length-set table x c.mul.result ∙ c.loop-x.invariant.size;
      at = next table c.args.factor x c.mul.result (omega arith) (c.mul.ensures ∙ ap (◌⊗◌ c.args.factor) (omega arith)) c.loop-x.invariant.at;
    }

pub invariant_of-result : goal.invariant_of-result
invariant_of-result c =
    let same : c.args.factor ≡ c.of.result = sym c.of.ensures in (
      λ x lt. c.loop-x.invariant.at x (omega arith) ∙ ap (λ f. f ⊗ x) same,
      c.of-2.ensures ∙ c.pow.ensures ∙ ap (λ f. power f 2) same,
      c.of-3.ensures ∙ c.pow-2.ensures ∙ ap (λ f. power f 4) same,
      c.of-4.ensures ∙ c.pow-3.ensures ∙ ap (λ f. power f 8) same,
      c.of-5.ensures ∙ c.pow-4.ensures ∙ ap (λ f. power f 16) same,
    )
