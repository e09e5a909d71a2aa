use Rattle.std.proofs.Common.{◌≡◌, ℕ, ◌+◌, ◌-◌, ◌*◌, ◌/◌, ◌%◌, ◌<◌, ◌≤◌, List, [], length, map, get_or, take, replicate, inl, inr, sym, ap, mul-le-mul, subst, ◌∙◌, arith, take_at, Vec, Global}
use Rattle.std.proofs.lemmas.Bool.{cases_lt}
use Rattle.std.proofs.lemmas.List.{length-replicate, get_or-replicate, get_or_past, length-map, get_or-map, get_or-take, length-take-le}
use Rattle.std.proofs.Math.Nat.{mul-le-mul_right}
use borrow.Author.Count.{falls}
use Rattle.gf256.specs.Field.{power}
use Rattle.uni_poly.specs.Taylor.{taylor}
use Rattle.bi_poly.proofs.Shift.{filled}
use Rattle.bi_poly.specs.Rows.{row}
use Rattle.gs_interpolate.specs.Family.{lane}
use Rattle.gs_interpolate.specs.Expansion.{AreExpanded, IsPieceAdded}
use Rattle.gs_interpolate.specs.Window.{IsWindow}
use Rattle.interpolation.specs.declared.TheConstants.{MOST_MULTIPLICITY}
use Rattle.gs_interpolate.specs.declared.basis.TheConstants.{MOST_LANES}
use Rattle.gs_interpolate.specs.declared.expansion.TheConstants.{MOST_TERMS}
use Rattle.gs_interpolate.proofs.Expansions.{steps_of}
use Rattle.gs_interpolate.proofs.Windows.{AreValuesFolded, values_folded-none, values_folded-next, values_folded-all, expanded-at, is_window}
use Rattle.gs_interpolate.proofs.window.Window.at.Goals as goal

-- zeros are zeros at all places
zeros_at : (n k : ℕ) (zeros : List ℕ) → zeros ≡ replicate n 0 → get_or zeros k 0 ≡ 0
zeros_at n k zeros are =
    ap (λ xs. get_or xs k 0) are
    ∙ elim (cases_lt k n) [
      | inl l ↦ get_or-replicate n k 0 0 l
      | inr l ↦ let nought : ℕ = 0 in let size = length-replicate n nought in get_or_past (replicate n nought) k 0 (omega (arith, l, size))
    ]

-- the cells fit into memory
cells_fit : (e m n : ℕ) → e ≤ MOST_TERMS → m ≤ MOST_MULTIPLICITY → n ≤ MOST_LANES → e * (m * n) ≤ MOST_TERMS * (MOST_MULTIPLICITY * MOST_LANES)
cells_fit e m n terms few wide = mul-le-mul terms (mul-le-mul few wide)

-- the first values of what a row expands to, as many as there are cells in a row of a window
length-values : (m n e : ℕ) (made now : List ℕ) → m ≤ e → length made ≡ e * n → now ≡ made → length (take (m * n) now) ≡ m * n
length-values m n e made now few size same = length-take-le (m * n) now (omega (arith, mul-le-mul_right n few, ap length same, size))

pub overflow_mul-terms : goal.overflow_mul-terms
overflow_mul-terms c =
    let m = ap (λ w. w.m) c.self.view_is in
    let lanes = ap (λ w. w.lanes) c.self.view_is in
    let few : c.next_power_of_two-terms.result ≤ MOST_TERMS = omega (arith, c.next_power_of_two-terms.ensures.upper_bound, c.requires.terms, m) in
    let fit = cells_fit c.next_power_of_two-terms.result c.self.inside.m c.self.inside.lanes few (omega (arith, c.requires.terms, m)) (omega (arith, c.requires.few, lanes)) in
    omega (arith, fit)

pub overflow_mul-size : goal.overflow_mul-size
overflow_mul-size c =
    let few : c.self.inside.m ≤ MOST_MULTIPLICITY = omega (arith, c.requires.terms, ap (λ w. w.m) c.self.view_is) in
    let wide : c.self.inside.lanes ≤ MOST_LANES = omega (arith, c.requires.few, ap (λ w. w.lanes) c.self.view_is) in
    omega (arith, mul-le-mul few wide)

pub overflow_mul-terms-2 : goal.overflow_mul-terms-2
overflow_mul-terms-2 c =
    let few : c.next_power_of_two-terms.result ≤ MOST_TERMS = omega (arith, c.next_power_of_two-terms.ensures.upper_bound, c.requires.terms, ap (λ w. w.m) c.self.view_is) in
    let wide : c.self.inside.lanes ≤ MOST_LANES = omega (arith, c.requires.few, ap (λ w. w.lanes) c.self.view_is) in
    omega (arith, mul-le-mul few wide)

pub overflow_mul-m : goal.overflow_mul-m
overflow_mul-m c =
    let few : c.self.inside.m ≤ MOST_MULTIPLICITY = omega (arith, c.requires.terms, ap (λ w. w.m) c.self.view_is) in
    let wide : c.self.inside.lanes ≤ MOST_LANES = omega (arith, c.requires.few, ap (λ w. w.lanes) c.self.view_is) in
    omega (arith, mul-le-mul few (mul-le-mul few wide))

pub expand_row-requires-clause-some : goal.expand_row-requires-clause-some
expand_row-requires-clause-some c = omega (arith, c.requires.some, ap (λ w. w.lanes) c.self.view_is)

pub expand_row-requires-clause-power : goal.expand_row-requires-clause-power
expand_row-requires-clause-power c = c.next_power_of_two-terms.ensures.power

pub expand_row-requires-clause-size : goal.expand_row-requires-clause-size
expand_row-requires-clause-size c = ap length c.deref_mut.ensures.value ∙ c.loop-j.invariant.first

pub slice_bounds-add_values-end : goal.slice_bounds-add_values-end
slice_bounds-add_values-end c =
    let made = c.expand_row.new.made in
    let size = c.expand_row.auto.made ∙ ap length c.deref_mut.ensures.value ∙ c.loop-j.invariant.first in
    let whole = c.deref-in-loop-j.ensures.value ∙ take_at made _ c.loop-j.first.len (c.expand_row.auto.made ∙ c.deref_mut.ensures.len) in
    sym (length-values c.self.inside.m c.self.inside.lanes c.next_power_of_two-terms.result made c.deref-in-loop-j.result.now c.next_power_of_two-terms.ensures.lower_bound size whole)

pub add_values-requires-clause-size : goal.add_values-requires-clause-size
add_values-requires-clause-size c =
    let made = c.expand_row.new.made in
    let size = c.expand_row.auto.made ∙ ap length c.deref_mut.ensures.value ∙ c.loop-j.invariant.first in
    let whole = c.deref-in-loop-j.ensures.value ∙ take_at made _ c.loop-j.first.len (c.expand_row.auto.made ∙ c.deref_mut.ensures.len) in
    ap length c.deref_mut-in-loop-j.ensures.value ∙ c.loop-j.invariant.size
    ∙ ap (λ k. c.next_power_of_two-terms.result * k)
    (sym (length-values c.self.inside.m c.self.inside.lanes c.next_power_of_two-terms.result made c.deref-in-loop-j.result.now c.next_power_of_two-terms.ensures.lower_bound size whole))

pub add_values-requires-clause-some : goal.add_values-requires-clause-some
add_values-requires-clause-some c = omega (arith, c.next_power_of_two-terms.ensures.lower_bound, c.requires.terms, ap (λ w. w.m) c.self.view_is)

pub add_values-requires-clause-few : goal.add_values-requires-clause-few
add_values-requires-clause-few c = omega (arith, c.loop-j-test.true, c.requires.wide, c.requires.few)

pub loop-j-smaller : goal.loop-j-smaller
loop-j-smaller c = falls (length c.args.rows.now) c.loop-j.j c.loop-j-test.true

pub expand-requires-clause-some : goal.expand-requires-clause-some
expand-requires-clause-some c =
    let once : 1 ≤ c.self.inside.m = omega (arith, c.requires.terms, ap (λ w. w.m) c.self.view_is) in
    omega (arith, mul-le-mul_right c.self.inside.lanes once, c.requires.some, ap (λ w. w.lanes) c.self.view_is)

pub expand-requires-clause-power : goal.expand-requires-clause-power
expand-requires-clause-power c = c.next_power_of_two-terms.ensures.power

pub expand-requires-clause-size : goal.expand-requires-clause-size
expand-requires-clause-size c = ap length c.deref_mut-2.ensures.value ∙ c.loop-j.invariant.size

pub loop-j-init : goal.loop-j-init
loop-j-init c =
    let n = c.self.inside.lanes in
    let s = c.self.inside.m * n in
    let e = c.next_power_of_two-terms.result in
    let zeros = filled c.resize.new.self.items _ (e * s) _ c.clear.ensures.items c.clear.ensures.len c.in_ok-resize.ensures.items in
    let room = filled c.resize-2.new.self.items _ (e * n) _ c.clear-2.ensures.items c.clear-2.ensures.len c.in_ok-resize-2.ensures.items in
    record {
      size = ap length zeros ∙ length-replicate (e * s) 0;
      first = ap length room ∙ length-replicate (e * n) 0;
      values = values_folded-none s e n c.args.a c.args.b (map (λ r. r.items) c.args.rows.now) c.resize.new.self.items (λ k. zeros_at (e * s) k c.resize.new.self.items zeros);
    }

pub expand_row-requires-clause-few : goal.expand_row-requires-clause-few
expand_row-requires-clause-few c = omega (arith, c.next_power_of_two-terms.ensures.upper_bound, c.requires.terms, ap (λ w. w.m) c.self.view_is)

pub expand-requires-clause-few : goal.expand-requires-clause-few
expand-requires-clause-few c = omega (arith, c.next_power_of_two-terms.ensures.upper_bound, c.requires.terms, ap (λ w. w.m) c.self.view_is)

pub invariant_of-result : goal.invariant_of-result
invariant_of-result c =
    let m = c.self.inside.m in
    let s = m * c.self.inside.lanes in
    let made = c.expand.new.cells in
    let size = c.expand.auto.cells ∙ ap length c.deref_mut-2.ensures.value ∙ c.loop-j.invariant.size in
    ap length (c.truncate.ensures.items ∙ ap (take (m * s)) (take_at made _ c.loop-j.cells.len (c.expand.auto.cells ∙ c.deref_mut-2.ensures.len)))
    ∙ length-take-le (m * s) made (omega (arith, mul-le-mul_right s c.next_power_of_two-terms.ensures.lower_bound, size))

pub loop-j-preserved : goal.loop-j-preserved
loop-j-preserved c =
    let n = c.self.inside.lanes in
    let m = c.self.inside.m in
    let s = m * n in
    let e = c.next_power_of_two-terms.result in
    let a = c.args.a in
    let b = c.args.b in
    let f : Vec ℕ Global → List ℕ = λ r. r.items in
    let rows = map f c.args.rows.now in
    let j = c.loop-j.j in
    let made = c.expand_row.new.made in
    let now = c.add_values.new.sums in
    let few : m ≤ e = c.next_power_of_two-terms.ensures.lower_bound in
    let wide = mul-le-mul_right n few in
    let some : 1 ≤ e = omega (arith, few, c.requires.terms, ap (λ w. w.m) c.self.view_is) in
    let any : 1 ≤ n = omega (arith, c.requires.some, ap (λ w. w.lanes) c.self.view_is) in
    let inside : j < length rows = omega (arith, c.loop-j-test.true, length-map c.args.rows.now f) in
    let held : c.deref.result.now ≡ row rows j = c.deref.ensures.value ∙ ap f c.index-rows-j.is ∙ sym (get_or-map f c.args.rows.now j _ [] c.loop-j-test.true) in
    let size-made : length made ≡ e * n = c.expand_row.auto.made ∙ ap length c.deref_mut.ensures.value ∙ c.loop-j.invariant.first in
    let first = take_at made _ c.loop-j.first.len (c.expand_row.auto.made ∙ c.deref_mut.ensures.len) in
    let whole = c.deref-in-loop-j.ensures.value ∙ first in
    let values = take s c.deref-in-loop-j.result.now in
    let long : length values ≡ s = length-take-le s c.deref-in-loop-j.result.now (omega (arith, ap length whole, size-made, wide)) in
    let each = subst (λ r. AreExpanded n e a made (λ g. lane n g r)) held c.expand_row.ensures in
    let are : (k : ℕ) → k < s → get_or values k 0 ≡ taylor (lane n (k % n) (row rows j)) a (k / n) = λ k l.
    get_or-take s c.deref-in-loop-j.result.now k 0 l ∙ ap (λ xs. get_or xs k 0) whole
    ∙ expanded-at n e a made (row rows j) k any (omega (arith, l, wide)) each in
    let added = subst (λ (xs : List ℕ). IsPieceAdded (power b (j - j % e)) (j % e) values now xs) c.deref_mut-in-loop-j.ensures.value c.add_values.ensures in
    let cells = take_at now _ c.loop-j.cells.len (c.add_values.ensures.size ∙ c.deref_mut-in-loop-j.ensures.len) in
    record {
      size = ap length cells ∙ added.size ∙ c.loop-j.invariant.size;
      first = ap length first ∙ size-made;
      values = subst (λ xs. AreValuesFolded s e n a b rows xs (j + 1)) (sym cells)
          (values_folded-next s e n a b j rows values now c.loop-j.cells.items (steps_of e c.next_power_of_two-terms.ensures.power) some inside long are added c.loop-j.invariant.values);
    }

pub returns : goal.returns
returns c =
    let n = c.self.inside.lanes in
    let m = c.self.inside.m in
    let s = m * n in
    let e = c.next_power_of_two-terms.result in
    let a = c.args.a in
    let b = c.args.b in
    let f : Vec ℕ Global → List ℕ = λ r. r.items in
    let rows = map f c.args.rows.now in
    let made = c.expand.new.cells in
    let cells = c.loop-j.cells.items in
    let all : c.loop-j.j ≡ length rows = omega (arith, c.loop-j-test.false, length-map c.args.rows.now f) in
    let items = c.truncate.ensures.items ∙ ap (take (m * s)) (take_at made _ c.loop-j.cells.len (c.expand.auto.cells ∙ c.deref_mut-2.ensures.len)) in
    let order = ap (λ w. w.m) c.self.view_is in
    let lanes = ap (λ w. w.lanes) c.self.view_is in
    let once : 1 ≤ m = omega (arith, c.requires.terms, order) in
    let some : 1 ≤ s = let most = mul-le-mul_right n once in omega (arith, most, c.requires.some, lanes) in
    let expanded = subst (λ xs. AreExpanded s e b made (λ k. lane s k xs)) c.deref_mut-2.ensures.value c.expand.ensures in
    let done = values_folded-all s e m n a b rows cells made some c.next_power_of_two-terms.ensures.lower_bound c.loop-j.invariant.size
    (subst (AreValuesFolded s e n a b rows cells) all c.loop-j.invariant.values) expanded in
    subst (λ w. IsWindow w.lanes w.m a b rows (record { lanes = n; m = m; a = a; b = b; cells = c.truncate.new.self.items })) c.self.view_is
    (subst (λ xs. IsWindow n m a b rows (record { lanes = n; m = m; a = a; b = b; cells = xs })) (sym items)
    (is_window n m a b (take (m * s) made) rows (omega (arith, c.requires.wide, lanes, length-map c.args.rows.now f)) done))
