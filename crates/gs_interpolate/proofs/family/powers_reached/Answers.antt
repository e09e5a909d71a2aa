use Rattle.std.proofs.Common.{◌≡◌, ℕ, ◌+◌, ◌-◌, ◌*◌, ◌<◌, ◌≤◌, get_or, inl, inr, sym, ap, ◌∙◌, arith}
use Rattle.std.proofs.lemmas.Bool.{cases_eq}
use Rattle.gf256.proofs.FlatRows.{row_within}
use Rattle.gs_interpolate.proofs.family.powers_reached.Goals as goal

-- a row has the place of each coefficient
row_fits : (powers count n : ℕ) → 0 < powers → powers ≤ count → (powers - 1) * n + n ≤ count * n
row_fits powers count n some few = row_within (powers - 1) count n (omega (arith, some, few))

pub overflow_mul-powers : goal.overflow_mul-powers
overflow_mul-powers c = omega (arith, row_fits c.zeros.powers c.args.count c.args.lanes c.zeros-test.true c.zeros.invariant.few, c.requires.room)

pub bounds-row-powers : goal.bounds-row-powers
bounds-row-powers c = omega (arith, row_fits c.zeros.powers c.args.count c.args.lanes c.zeros-test.true c.zeros.invariant.few, c.requires.room, c.requires.inside)

pub overflow_add-powers : goal.overflow_add-powers
overflow_add-powers c = omega (arith, row_fits c.zeros.powers c.args.count c.args.lanes c.zeros-test.true c.zeros.invariant.few, c.requires.room, c.requires.inside)

pub zeros-init : goal.zeros-init
zeros-init c = record { few = omega arith; zero = λ i l m. absurd (omega (arith, l, m)) }

pub zeros-preserved : goal.zeros-preserved
zeros-preserved c = record {
  few = let few = c.zeros.invariant.few in omega (arith, few);
  zero = λ i l m. elim (cases_eq i (c.zeros.powers - 1)) [
    | inl is ↦ ap (λ k. get_or c.args.row.now (k * c.args.lanes + c.args.p) 0) is ∙ c.if-row-powers-eq0.true
    | inr other ↦ c.zeros.invariant.zero i (omega (arith, l, other, c.zeros-test.true)) m
  ];
}

pub returns-after-zeros : goal.returns-after-zeros
returns-after-zeros c = record {
  few = c.zeros.invariant.few;
  own = c.zeros.invariant.zero;
  least = λ i e z. absurd (omega (arith, e, c.zeros-test.false));
}

pub returns-else-row-powers-eq0 : goal.returns-else-row-powers-eq0
returns-else-row-powers-eq0 c = record {
  few = c.zeros.invariant.few;
  own = c.zeros.invariant.zero;
  least = λ i e z.
      let same : i ≡ c.zeros.powers - 1 = omega (arith, e) in
      c.if-row-powers-eq0.false (ap (λ k. get_or c.args.row.now (k * c.args.lanes + c.args.p) 0) (sym same) ∙ z);
}
