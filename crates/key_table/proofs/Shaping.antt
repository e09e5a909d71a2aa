-- The best shape among the powers of two, one power after the other.
use Rattle.std.proofs.Common.{◌≡◌, ℕ, ◌+◌, ◌*◌, ◌^◌, ◌<◌, ◌≤◌, ltb, sym, ap, ap₂, subst, ◌∙◌, arith, inl, inr, below_more, Option, Some, None, Result, Ok, Err}
use Rattle.std.proofs.lemmas.Bool.{cases_lt, cond-false, cond-true, le-ltb, lt-ltb}
use Rattle.std.proofs.lemmas.Nat.{pow_below}
use Rattle.quantity_limits.specs.Shape.{IsShape}
use Rattle.quantity_limits.specs.declared.TheConstants.{MOST_ROWS}
use Rattle.key_table.specs.Entry.{entry_size}
use Rattle.key_table.specs.Table.{head_size}
use Rattle.key_table.specs.Shapes.{BestOf, HasShape, IsBestOf, IsFault, Judges, Makes, Passes, ShapesBest, ShapesOf, cost, lesser}
use Rattle.key_table.specs.Sorting.{Sorted}
use Rattle.key_table.specs.Width.{IsBest, fullest, width_of}
use Rattle.key_table.specs.declared.shape.Shape.{Shape}
use Rattle.key_table.specs.declared.shape.ShapeFault.{ShapeFault}
use Rattle.key_table.specs.declared.shape.ShapeLimit.{ShapeLimit}
use Rattle.key_table.specs.declared.shape.ShapeLimit.TheVariants.{TooWide, TooLarge}

-- room for as many entries as the fullest row has is the width
pub width_is : (list : Sorted) (rows entries width : ℕ) → entries ≡ fullest rows list.pairs
    → width ≡ head_size + entry_size list.size list.most * entries → width ≡ width_of list.size list.most rows list.pairs
unfolding width_of
width_is list rows entries width many wide = wide ∙ ap (λ n. head_size + entry_size list.size list.most * n) many

-- the judgement of a list's own width is its shape
pub shapes_from : (list : Sorted) (rows entries width : ℕ) (r : Result Shape ShapeFault) → entries ≡ fullest rows list.pairs
    → width ≡ width_of list.size list.most rows list.pairs → Judges rows entries width r → ShapesOf list rows r
shapes_from list rows entries width (Ok shape) many wide h =
    let same : shape.rows ≡ rows = ap (λ (s : Shape). s.rows) h.0 in
    let own : shape.width ≡ width = ap (λ (s : Shape). s.width) h.0 in (
      same,
      record {
        width = own ∙ wide ∙ ap (λ n. width_of list.size list.most n list.pairs) (sym same);
        is_shape = subst (λ (s : Shape). IsShape s.rows s.width) (sym h.0) h.1;
      },
    )
shapes_from list rows entries width (Err fault) many wide h = (
  h.0,
  record {
    entries = h.1 ∙ many ∙ ap (λ n. fullest n list.pairs) (sym h.0);
    width = h.2 ∙ wide ∙ ap (λ n. width_of list.size list.most n list.pairs) (sym h.0);
    passes = subst (λ w. Passes fault.limit fault.rows w) (sym h.2) (subst (λ n. Passes fault.limit n width) (sym h.0) h.3);
  },
)

-- rows that pass a limit make no table
pub fault_makes_none : (list : Sorted) (fault : ShapeFault) (rows : ℕ) → fault.rows ≡ rows → IsFault list fault → Makes list rows → ⊥
fault_makes_none list fault rows same h makes =
    by fault.limit (subst (λ w. Passes fault.limit rows w) wide (subst (λ n. Passes fault.limit n fault.width) same h.passes))
  where
    wide : fault.width ≡ width_of list.size list.most rows list.pairs
    wide = h.width ∙ ap (λ n. width_of list.size list.most n list.pairs) same

    by : (limit : ShapeLimit) → Passes limit rows (width_of list.size list.most rows list.pairs) → ⊥
    by TooWide p = omega (arith, p, makes.shape.few_bytes)
    by TooLarge p = omega (arith, p.1, makes.shape.few_cells)

-- a shape of so many rows has their cost
cost_of_shape : (list : Sorted) (shape : Shape) (rows : ℕ) → HasShape list shape → shape.rows ≡ rows → shape.rows + shape.width ≡ cost list rows
cost_of_shape list shape rows has same = ap₂ (λ m n. m + n) same (has.width ∙ ap (λ n. width_of list.size list.most n list.pairs) same)

-- a power that makes no table changes nothing
pub best_kept : (list : Sorted) (n : ℕ) (best : Option Shape) → (Makes list (2 ^ n) → ⊥) → BestOf list n best → BestOf list (n + 1) best
best_kept list n None none h = below_more (λ k. Makes list (2 ^ k) → ⊥) n h none
best_kept list n (Some shape) none h = record {
  has = h.has;
  power = h.power;
  few = omega (arith, h.few);
  is_power = h.is_power;
  least = below_more (λ k. Makes list (2 ^ k) → shape.rows + shape.width ≤ cost list (2 ^ k)) n h.least (λ makes. absurd (none makes));
  fewest = below_more (λ k. Makes list (2 ^ k) → shape.rows + shape.width ≡ cost list (2 ^ k) → shape.rows ≤ 2 ^ k) n h.fewest
      (λ makes. absurd (none makes));
}

-- the first power that makes a table has the best shape
pub best_first : (list : Sorted) (n : ℕ) (shape : Shape) → HasShape list shape → shape.rows ≡ 2 ^ n → BestOf list n None → IsBestOf list (n + 1) shape
best_first list n shape has is none =
    let own = cost_of_shape list shape (2 ^ n) has is in
    record {
      has = has;
      power = n;
      few = omega arith;
      is_power = is;
      least = below_more (λ k. Makes list (2 ^ k) → shape.rows + shape.width ≤ cost list (2 ^ k)) n (λ k lt makes. absurd (none k lt makes))
          (λ makes. omega (arith, own));
      fewest = below_more (λ k. Makes list (2 ^ k) → shape.rows + shape.width ≡ cost list (2 ^ k) → shape.rows ≤ 2 ^ k) n
          (λ k lt makes. absurd (none k lt makes)) (λ makes e. omega (arith, is));
    }

-- a shape with the next power that costs less is the best
best_new : (list : Sorted) (n : ℕ) (best shape : Shape) → HasShape list shape → shape.rows ≡ 2 ^ n → IsBestOf list n best
    → shape.rows + shape.width < best.rows + best.width → IsBestOf list (n + 1) shape
best_new list n best shape has is h lt =
    let own = cost_of_shape list shape (2 ^ n) has is in
    record {
      has = has;
      power = n;
      few = omega arith;
      is_power = is;
      least = below_more (λ k. Makes list (2 ^ k) → shape.rows + shape.width ≤ cost list (2 ^ k)) n
          (λ k less makes. let old = h.least k less makes in omega (arith, old, lt)) (λ makes. omega (arith, own));
      fewest = below_more (λ k. Makes list (2 ^ k) → shape.rows + shape.width ≡ cost list (2 ^ k) → shape.rows ≤ 2 ^ k) n
          (λ k less makes e. let old = h.least k less makes in absurd (omega (arith, old, lt, e))) (λ makes e. omega (arith, is));
    }

-- else the best of those before is
best_old : (list : Sorted) (n : ℕ) (best shape : Shape) → HasShape list shape → shape.rows ≡ 2 ^ n → IsBestOf list n best
    → best.rows + best.width ≤ shape.rows + shape.width → IsBestOf list (n + 1) best
best_old list n best shape has is h le =
    let own = cost_of_shape list shape (2 ^ n) has is in
    let fewer = pow_below h.power n h.few in
    record {
      has = h.has;
      power = h.power;
      few = omega (arith, h.few);
      is_power = h.is_power;
      least = below_more (λ k. Makes list (2 ^ k) → best.rows + best.width ≤ cost list (2 ^ k)) n h.least (λ makes. omega (arith, own, le));
      fewest = below_more (λ k. Makes list (2 ^ k) → best.rows + best.width ≡ cost list (2 ^ k) → best.rows ≤ 2 ^ k) n h.fewest
          (λ makes e. omega (arith, h.is_power, fewer));
    }

-- the lesser of both is the best
pub best_more : (list : Sorted) (n : ℕ) (best shape chosen : Shape) → HasShape list shape → shape.rows ≡ 2 ^ n → IsBestOf list n best
    → chosen ≡ lesser best shape → IsBestOf list (n + 1) chosen
best_more list n best shape chosen has is h e = elim (cases_lt (shape.rows + shape.width) (best.rows + best.width)) [
  | inl lt ↦
      subst (IsBestOf list (n + 1))
      (sym (e ∙ cond-true (ltb (shape.rows + shape.width) (best.rows + best.width)) shape best (lt-ltb (shape.rows + shape.width) (best.rows + best.width) lt)))
      (best_new list n best shape has is h lt)
  | inr ge ↦
      subst (IsBestOf list (n + 1))
      (sym (e ∙ cond-false (ltb (shape.rows + shape.width) (best.rows + best.width)) shape best (le-ltb (shape.rows + shape.width) (best.rows + best.width) ge)))
      (best_old list n best shape has is h ge)
]

-- a power of at most 20 is a number of rows
pub power_few : (k : ℕ) → k ≤ 20 → 2 ^ k ≤ MOST_ROWS
power_few k few = elim (cases_lt k 20) [
  | inl lt ↦ let more : 2 ^ k < 2 ^ 20 = pow_below k 20 lt in omega (arith, more)
  | inr ge ↦ let same : k ≡ 20 = omega (arith, few, ge) in omega (arith, ap (λ n. 2 ^ n) same)
]

-- only the first 21 powers are numbers of rows
few_powers : (k : ℕ) → 2 ^ k ≤ MOST_ROWS → k < 21
few_powers k few = elim (cases_lt k 21) [
  | inl lt ↦ lt
  | inr ge ↦ let more : 2 ^ 20 < 2 ^ k = pow_below 20 k (omega (arith, ge)) in absurd (omega (arith, more, few))
]

-- the power of a number of rows that makes a table
power_of : (list : Sorted) (rows : ℕ) → (makes : Makes list rows) → makes.power < 21
power_of list rows makes = few_powers makes.power (subst (λ n. n ≤ MOST_ROWS) makes.is_power makes.shape.few_rows)

-- a number of rows is that power
as_power : (list : Sorted) (rows : ℕ) → (makes : Makes list rows) → Makes list (2 ^ makes.power)
as_power list rows makes = subst (Makes list) makes.is_power makes

-- the best of 21 powers is the best
pub best_of_all : (list : Sorted) (shape : Shape) → IsBestOf list 21 shape → HasShape list shape × IsBest list.size list.most list.pairs shape.rows
best_of_all list shape h = (
  h.has,
  record {
    makes = record {
      power = h.power;
      is_power = h.is_power;
      shape = subst (IsShape shape.rows) h.has.width h.has.is_shape;
    };
    least = λ other makes.
        let old = h.least makes.power (power_of list other makes) (as_power list other makes) in
        omega (arith, old, h.has.width, ap (cost list) makes.is_power);
    fewest = λ other makes e.
        let same = ap (cost list) makes.is_power in
        let old = h.fewest makes.power (power_of list other makes) (as_power list other makes) (omega (arith, e, h.has.width, same)) in
        omega (arith, old, makes.is_power);
  },
)

-- where none of 21 powers makes a table, none does
pub none_of_all : (list : Sorted) → BestOf list 21 None → (rows : ℕ) → Makes list rows → ⊥
none_of_all list none rows makes = none makes.power (power_of list rows makes) (as_power list rows makes)

-- and as many rows as may be have a fault
pub fault_of_most : (list : Sorted) (r : Result Shape ShapeFault) → ((rows : ℕ) → Makes list rows → ⊥) → ShapesOf list MOST_ROWS r → ShapesBest list r
fault_of_most list (Ok shape) none h =
    absurd (none shape.rows (record { power = 20; is_power = h.0; shape = subst (IsShape shape.rows) h.1.width h.1.is_shape }))
fault_of_most list (Err fault) none h = (h.0, h.1, none)
