use Rattle.std.proofs.Common.{◌≡◌, ◌≢◌, refl, le_of_lt, ◌<◌, ◌≤◌, ◌+◌, ◌-◌, ℕ, List, ◌++◌, length, drop, take, get_or, ap, sym, subst, subst₂, ◌∙◌, arith, take_at, below_more, All, AllPairs}
use Rattle.std.proofs.lemmas.List.{length-replicate}
use Rattle.std.proofs.lemmas.Result.{IfOk-from_err}
use borrow.Author.Count.{falls}
use Rattle.gf256.specs.Polynomial.{coef, val}
use Rattle.uni_poly.specs.Coefficients.{IsBytes}
use Rattle.uni_poly.specs.Product.{product, linear, vanishing}
use Rattle.uni_poly.proofs.VanishingPolynomial.{vanishing_more, vanishing_take-length, vanishing_take-before, vanishing_take-next}
use Rattle.uni_poly.proofs.Coefficients.{bytes_from_get_or, IsBytes-zeros}
use Rattle.uni_poly.proofs.Uniqueness.{same_list}
use Rattle.uni_poly.proofs.interpolate.Goals as goal

-- no point is before the first
none_before : (k : ℕ) → k < 0 → ⊥
none_before k l = omega (arith, l)

-- the multiple has room
has_room : (b v i m n x : ℕ) → b ≡ v → v ≡ i + 1 → m ≡ x → x ≡ n → i < n → b ≤ m
has_room b v i m n x same size held long within = omega (arith, same, size, held, long, within)

pub loop-i-init : goal.loop-i-init
unfolding vanishing
loop-i-init c = record {
  long = ap length (c.in_ok-made.ensures.items_if_clones_equal (λ y e. e)) ∙ length-replicate (length c.args.xs.now) 0;
  bytes = subst IsBytes (sym (c.in_ok-made.ensures.items_if_clones_equal (λ y e. e))) (IsBytes-zeros (length c.args.xs.now));
  basis = c.in_ok-basis.ensures.items;
  hits = λ k l. absurd (none_before k l);
}

-- the vanishing polynomial of the points before has room, and is not 0 at the next
meets : (xs made basis : List ℕ) (i : ℕ) → All (λ x. x < 256) xs → AllPairs (λ x y. x ≢ y) xs → basis ≡ vanishing (take i xs) → length made ≡ length xs → i < length xs
    → (length basis ≤ length made) × (val basis (get_or xs i 0) ≢ 0)
meets xs made basis i bytes distinct is long inside = (
  has_room _ _ i _ _ _ (ap length is) (vanishing_take-length xs i inside) refl long inside,
  λ e. vanishing_take-next xs i inside bytes distinct (ap (λ q. val q (get_or xs i 0)) (sym is) ∙ e),
)

-- with the next point, those through which the polynomial passes
hits_more : (xs ys made made-2 basis : List ℕ) (i : ℕ) → basis ≡ vanishing (take i xs) → i ≤ length xs
    → ((k : ℕ) → k < i → val made (get_or xs k 0) ≡ get_or ys k 0)
    → ((a : ℕ) → val basis a ≡ 0 → val made-2 a ≡ val made a)
    → val made-2 (get_or xs i 0) ≡ get_or ys i 0
    → (k : ℕ) → k < i + 1 → val made-2 (get_or xs k 0) ≡ get_or ys k 0
hits_more xs ys made made-2 basis i is inside before kept through = below_more _ _
    (λ k l. let a = get_or xs k 0 in kept a (ap (λ q. val q a) is ∙ vanishing_take-before xs i k l inside) ∙ before k l)
    through

-- a place before the last is a place
inside : (i n : ℕ) → 0 < n → i < n - 1 → i < n
inside i n some l = omega (arith, some, l)

-- the last place is a place
last_inside : (n : ℕ) → 0 < n → n - 1 < n
last_inside n some = omega (arith, some)

pub pass_through-requires : goal.pass_through-requires
pass_through-requires c =
    let xs = c.args.xs.now in
    let ready = meets xs c.loop-i.made.items c.loop-i.basis.items c.loop-i.i (bytes_from_get_or xs (λ k. (c.type_inv.xs k).fits)) c.requires.distinct
    c.loop-i.invariant.basis c.loop-i.invariant.long (inside c.loop-i.i (length xs) c.requires.some c.loop-i-test.true) in
    record {
      room = subst₂ (λ b m. length b ≤ length m) (sym c.deref.ensures.value) (sym c.deref_mut.ensures.value) ready.0;
      apart = subst (λ b. val b (get_or xs c.loop-i.i 0) ≢ 0) (sym c.deref.ensures.value) ready.1;
    }

pub loop-i-preserved : goal.loop-i-preserved
loop-i-preserved c =
    let i = c.loop-i.i in
    let xs = c.args.xs.now in
    let x = get_or xs i 0 in
    let within = inside i (length xs) c.requires.some c.loop-i-test.true in
    let same_length : length c.pass_through.new.made ≡ c.loop-i.made.len = c.pass_through.auto.made ∙ c.deref_mut.ensures.len in
    let made : take c.loop-i.made.len (c.pass_through.new.made ++ drop (length c.pass_through.new.made) c.loop-i.made.items) ≡ c.pass_through.new.made =
    take_at c.pass_through.new.made _ c.loop-i.made.len same_length in
    let hits = hits_more xs c.args.ys.now c.deref_mut.result.now c.pass_through.new.made c.deref.result.now i (c.deref.ensures.value ∙ c.loop-i.invariant.basis)
    (le_of_lt within) (λ k l. ap (λ q. val q (get_or xs k 0)) c.deref_mut.ensures.value ∙ c.loop-i.invariant.hits k l) c.pass_through.ensures.kept c.pass_through.ensures.through in
    record {
      long = ap length made ∙ same_length ∙ c.loop-i.made.ok.0 ∙ c.loop-i.invariant.long;
      bytes = subst IsBytes (sym made) c.pass_through.ensures.bytes;
      basis = c.in_ok-basis-2.ensures ∙ ap (λ q. product q (linear x)) (c.deref-in-loop-i.ensures.value ∙ c.loop-i.invariant.basis) ∙ vanishing_more xs i within;
      hits = λ k l. ap (λ q. val q (get_or xs k 0)) made ∙ hits k l;
    }

pub loop-i-smaller : goal.loop-i-smaller
loop-i-smaller c = falls (length c.args.xs.now - 1) c.loop-i.i c.loop-i-test.true

pub bounds-xs-i : goal.bounds-xs-i
bounds-xs-i c = inside c.loop-i.i (length c.args.xs.now) c.requires.some c.loop-i-test.true

pub bounds-ys-i : goal.bounds-ys-i
bounds-ys-i c = subst (λ n. c.loop-i.i < n) c.requires.same_length (inside c.loop-i.i (length c.args.xs.now) c.requires.some c.loop-i-test.true)

pub returns-in_err-made-clause-through : goal.returns-in_err-made-clause-through
returns-in_err-made-clause-through c = IfOk-from_err c.from_residual.result _ c.from_residual.ensures.0

pub returns-in_err-made-clause-only : goal.returns-in_err-made-clause-only
returns-in_err-made-clause-only c = IfOk-from_err c.from_residual.result _ c.from_residual.ensures.0

pub returns-in_err-basis-clause-through : goal.returns-in_err-basis-clause-through
returns-in_err-basis-clause-through c = IfOk-from_err c.from_residual-in_err-basis.result _ c.from_residual-in_err-basis.ensures.0

pub returns-in_err-basis-clause-only : goal.returns-in_err-basis-clause-only
returns-in_err-basis-clause-only c = IfOk-from_err c.from_residual-in_err-basis.result _ c.from_residual-in_err-basis.ensures.0

pub returns-in_err-basis-2-clause-through : goal.returns-in_err-basis-2-clause-through
returns-in_err-basis-2-clause-through c = IfOk-from_err c.from_residual-in_err-basis-2.result _ c.from_residual-in_err-basis-2.ensures.0

pub returns-in_err-basis-2-clause-only : goal.returns-in_err-basis-2-clause-only
returns-in_err-basis-2-clause-only c = IfOk-from_err c.from_residual-in_err-basis-2.result _ c.from_residual-in_err-basis-2.ensures.0

-- before the last point
pub pass_through-requires-2 : goal.pass_through-requires-2
pass_through-requires-2 c =
    let xs = c.args.xs.now in
    let last : c.loop-i.i ≡ length xs - 1 = omega arith in
    let ready = meets xs c.loop-i.made.items c.loop-i.basis.items (length xs - 1) (bytes_from_get_or xs (λ k. (c.type_inv.xs k).fits)) c.requires.distinct
    (c.loop-i.invariant.basis ∙ ap (λ k. vanishing (take k xs)) last) c.loop-i.invariant.long (last_inside (length xs) c.requires.some) in
    record {
      room = subst₂ (λ b m. length b ≤ length m) (sym c.deref-2.ensures.value) (sym c.deref_mut-2.ensures.value) ready.0;
      apart = subst (λ b. val b (get_or xs (length xs - 1) 0) ≢ 0) (sym c.deref-2.ensures.value) ready.1;
    }

through : goal.returns-clause-through
unfolding coef
through c =
    let xs = c.args.xs.now in
    let n = length xs in
    let last : c.loop-i.i ≡ n - 1 = omega arith in
    let whole : n - 1 + 1 ≡ n = omega (arith, c.requires.some) in
    let within : n - 1 ≤ n = omega arith in
    let same_length : length c.pass_through-2.new.made ≡ c.loop-i.made.len = c.pass_through-2.auto.made ∙ c.deref_mut-2.ensures.len in
    let made = take_at c.pass_through-2.new.made (drop (length c.pass_through-2.new.made) c.loop-i.made.items) c.loop-i.made.len same_length in
    let hits = hits_more xs c.args.ys.now c.deref_mut-2.result.now c.pass_through-2.new.made c.deref-2.result.now (n - 1)
    (c.deref-2.ensures.value ∙ c.loop-i.invariant.basis ∙ ap (λ k. vanishing (take k xs)) last) within
    (λ k l. ap (λ q. val q (get_or xs k 0)) c.deref_mut-2.ensures.value ∙ c.loop-i.invariant.hits k (subst (λ j. k < j) (sym last) l))
    c.pass_through-2.ensures.kept c.pass_through-2.ensures.through in
    record {
      size = ap length made ∙ same_length ∙ c.loop-i.made.ok.0 ∙ c.loop-i.invariant.long;
      bytes = bytes_from_get_or _ (subst IsBytes (sym made) c.pass_through-2.ensures.bytes);
      through = λ k l. ap (λ q. val q (get_or xs k 0)) made ∙ hits k (subst (λ j. k < j) (sym whole) l);
    }

pub returns-clause-through : goal.returns-clause-through
returns-clause-through c = through c

pub returns-clause-only : goal.returns-clause-only
returns-clause-only c = λ p h.
    same_list c.args.xs.now c.args.ys.now p _ (bytes_from_get_or c.args.xs.now (λ k. (c.type_inv.xs k).fits)) c.requires.distinct h (through c)
