use Rattle.std.proofs.Common.{◌≡◌, ◌<◌, ◌≤◌, ◌++◌, ◌∷◌, ◌-◌, ◌+◌, List, ℕ, [], length, length-append, refl, map, get_or, sym, ap, subst, ◌∙◌, arith, take_at, Vec, Global}
use Rattle.std.proofs.lemmas.List.{map-append, length-map, length-replicate, get_or-replicate, get_or-map}
use Rattle.gf256.specs.Field.{◌⊗◌, power}
use Rattle.bi_poly.specs.Rows.{row}
use Rattle.rr_roots.specs.Values.{ArePowers}
use Rattle.rr_roots.proofs.ByteValues.{power-none, power-more, powers-none, powers-more}
use Rattle.rr_roots.proofs.values.powers_of_bytes.Goals as goal

pub returns-then-count-eq0-clause-powers : goal.returns-then-count-eq0-clause-powers
returns-then-count-eq0-clause-powers c = subst ArePowers (sym (ap (map (λ r. r.items)) c.in_ok-rows.ensures.items)) powers-none

-- the row before is there
before : (e n : ℕ) → 1 ≤ e → n ≡ e → e - 1 < n
before e n some size = omega (arith, some, size)

-- one more row
pushed_size : {V : Type 0} (old new : List V) (x : V) (n : ℕ) → new ≡ old ++ x ∷ [] → length old ≡ n → length new ≡ n + 1
pushed_size old new x n pushed size = let long = length-append old (x ∷ []) in let all = ap length pushed in omega (arith, long, all, size)

pub loop-e-init : goal.loop-e-init
loop-e-init c =
    let f : Vec ℕ Global → List ℕ = λ r. r.items in
    let first = c.in_ok-vec.field-0 in
    let ones = c.in_ok-vec.ensures.items_if_clones_equal (λ y e. e) in
    let items = c.in_ok-push.ensures.items ∙ ap (λ xs. xs ++ first ∷ []) c.in_ok-rows.ensures.items in
    record {
      count = ap length items;
      powers =
          subst ArePowers (sym (ap (map f) items))
          (powers-more [] first.items 0 refl powers-none (ap length ones ∙ length-replicate {A = ℕ} 256 1)
          (λ g l. ap (λ xs. get_or xs g 0) ones ∙ get_or-replicate 256 g 1 0 l ∙ sym (power-none g)));
    }

pub times_places-requires : goal.times_places-requires
times_places-requires c =
    let f : Vec ℕ Global → List ℕ = λ r. r.items in
    let rows = map f c.loop-e.rows.items in
    let inside = before c.loop-e.e (length c.loop-e.rows.items) c.loop-e.auto.e c.loop-e.invariant.count in
    let held = c.deref.ensures.value ∙ ap f c.index.ensures ∙ sym (get_or-map f c.loop-e.rows.items (c.loop-e.e - 1) _ [] inside) in
    ap length (c.deref_mut.ensures.value ∙ c.in_ok-row.ensures.items ∙ held)
    ∙ c.loop-e.invariant.powers.size (c.loop-e.e - 1) (before c.loop-e.e (length rows) c.loop-e.auto.e (length-map c.loop-e.rows.items f ∙ c.loop-e.invariant.count))

pub loop-e-preserved : goal.loop-e-preserved
loop-e-preserved c =
    let f : Vec ℕ Global → List ℕ = λ r. r.items in
    let e = c.loop-e.e in
    let old = c.loop-e.rows.items in
    let rows = map f old in
    let new = c.times_places.new.row in
    let count = length-map old f ∙ c.loop-e.invariant.count in
    let inside = before e (length rows) c.loop-e.auto.e count in
    let held : c.deref_mut.result.now ≡ row rows (e - 1) =
    c.deref_mut.ensures.value ∙ c.in_ok-row.ensures.items ∙ c.deref.ensures.value ∙ ap f c.index.ensures
    ∙ sym (get_or-map f old (e - 1) _ [] (before e (length old) c.loop-e.auto.e c.loop-e.invariant.count)) in
    let back = take_at new _ c.in_ok-row.row.len (c.times_places.auto.row ∙ c.deref_mut.ensures.len) in
    let pushed = ap (map f) c.in_ok-push-2.ensures.items ∙ map-append f old (_ ∷ []) ∙ ap (λ r. rows ++ r ∷ []) back in
    let up : e - 1 + 1 ≡ e = let some = c.loop-e.auto.e in omega (arith, some) in
    record {
      count = pushed_size old c.push-in-loop-e.new.self.items _ e c.in_ok-push-2.ensures.items c.loop-e.invariant.count;
      powers =
          subst ArePowers (sym pushed)
          (powers-more rows new e count c.loop-e.invariant.powers
          (c.times_places.auto.row ∙ ap length held ∙ c.loop-e.invariant.powers.size (e - 1) inside)
          (λ g l.
          c.times_places.ensures g l ∙ ap (λ xs. g ⊗ get_or xs g 0) held ∙ ap (◌⊗◌ g) (c.loop-e.invariant.powers.each (e - 1) g inside l)
          ∙ sym (power-more g (e - 1)) ∙ ap (power g) up));
    }

pub returns-clause-size : goal.returns-clause-size
returns-clause-size c =
    let other = c.if-count-eq0.false in
    let some : 1 ≤ c.args.count = omega (arith, other) in
    let end = c.loop-e.auto.e-end some in
    omega (arith, c.loop-e-test.false, c.loop-e.invariant.count, end)
