use Rattle.std.proofs.Common.{rules, ◌≡◌, ◌<◌, ◌≤◌, List, ℕ, [], length, map, get_or, refl, sym, ap, ap₂, ◌∙◌, arith, Vec, Global}
use Rattle.std.specs.Option.{unwrap_or}
use Rattle.std.proofs.lemmas.List.{length-map, get_or-map, get_or-replicate}
use Rattle.gf256.specs.Field.{◌⊕◌, ◌⊗◌, power}
use Rattle.gf256.specs.Polynomial.{coef}
use Rattle.gf256.proofs.Xor.{add_zero}
use Rattle.gf256.proofs.FieldLaws.{zero_mul}
use Rattle.bi_poly.specs.Rows.{row, cell, column}
use Rattle.bi_poly.proofs.Degree.{coef-column}
use Rattle.rr_roots.proofs.ByteValues.{value_to, value_to-none, value_to-next, value_to-all}
use Rattle.rr_roots.proofs.values.values_at_bytes.Goals as goal

-- as many rows of powers as there are of the polynomial
within : (e n m k : ℕ) → e < n → n ≡ m → m ≤ k → e < k
within e n m k l same fits = omega (arith, l, same, fits)

pub loop-e-init : goal.loop-e-init
loop-e-init c = record {
  size = refl;
  sums = λ g l. get_or-replicate 256 g 0 0 l ∙ sym (value_to-none (column c.args.q.now 0) g);
}

pub add_scaled_row-requires : goal.add_scaled_row-requires
add_scaled_row-requires c =
    let f : Vec ℕ Global → List ℕ = λ r. r.items in
    let e = c.loop-e.e in
    let rows = c.rows-rows.result.now in
    let inside = within e (length rows) (length c.args.q.now) (length c.args.powers.now) c.loop-e-test.true (sym (length-map rows f) ∙ ap length c.rows-rows.ensures) c.requires.enough in
    ap length (c.deref-in-loop-e.ensures.value ∙ ap f c.index-powers-e.is ∙ sym (get_or-map f c.args.powers.now e _ [] inside))
    ∙ c.requires.powers.size e (omega (arith, inside, length-map c.args.powers.now f)) ∙ sym c.loop-e.invariant.size

pub loop-e-preserved-then-constant-eq0 : goal.loop-e-preserved-then-constant-eq0
unfolding coef cell
loop-e-preserved-then-constant-eq0 c =
    let f : Vec ℕ Global → List ℕ = λ r. r.items in
    let q = c.args.q.now in
    let p = column q 0 in
    let e = c.loop-e.e in
    let rows = c.rows-rows.result.now in
    let own : c.deref.result.now ≡ row q e =
    c.deref.ensures.value ∙ ap f c.index-rows-e.is ∙ sym (get_or-map f rows e _ [] c.loop-e-test.true) ∙ ap (λ q. row q e) c.rows-rows.ensures in
    let first : c.unwrap_or-constant.result ≡ get_or c.deref.result.now 0 0 =
    c.unwrap_or-constant.ensures ∙ ap (λ o. unwrap_or o 0) c.copied.ensures ∙ (search rules) in
    let none : coef p e ≡ 0 = coef-column q 0 e ∙ ap (λ r. get_or r 0 0) (sym own) ∙ sym first ∙ c.if-constant-eq0.true in
    record {
      size = c.loop-e.invariant.size;
      sums = λ g l.
          c.loop-e.invariant.sums g l
          ∙ sym (value_to-next p g e ∙ ap (λ k. value_to p g e ⊕ k ⊗ power g e) none ∙ ap (◌⊕◌ (value_to p g e)) (zero_mul (power g e))
          ∙ add_zero (value_to p g e));
    }

pub loop-e-preserved : goal.loop-e-preserved
unfolding coef cell
loop-e-preserved c =
    let f : Vec ℕ Global → List ℕ = λ r. r.items in
    let q = c.args.q.now in
    let p = column q 0 in
    let e = c.loop-e.e in
    let rows = c.rows-rows.result.now in
    let inside = within e (length rows) (length q) (length c.args.powers.now) c.loop-e-test.true (sym (length-map rows f) ∙ ap length c.rows-rows.ensures) c.requires.enough in
    let held : c.deref-in-loop-e.result.now ≡ row (map f c.args.powers.now) e =
    c.deref-in-loop-e.ensures.value ∙ ap f c.index-powers-e.is ∙ sym (get_or-map f c.args.powers.now e _ [] inside) in
    let own : c.deref.result.now ≡ row q e =
    c.deref.ensures.value ∙ ap f c.index-rows-e.is ∙ sym (get_or-map f rows e _ [] c.loop-e-test.true) ∙ ap (λ q. row q e) c.rows-rows.ensures in
    let first : c.unwrap_or-constant.result ≡ get_or c.deref.result.now 0 0 =
    c.unwrap_or-constant.ensures ∙ ap (λ o. unwrap_or o 0) c.copied.ensures ∙ (search rules) in
    let constant : c.unwrap_or-constant.result ≡ coef p e = first ∙ ap (λ r. get_or r 0 0) own ∙ sym (coef-column q 0 e) in
    record {
      size = c.add_scaled_row.auto.acc ∙ c.loop-e.invariant.size;
      sums = λ g l.
          c.add_scaled_row.ensures g
          ∙ ap₂ (λ x y. x ⊕ c.unwrap_or-constant.result ⊗ y) (c.loop-e.invariant.sums g l)
          (ap (λ r. get_or r g 0) held ∙ c.requires.powers.each e g (omega (arith, inside, length-map c.args.powers.now f)) l)
          ∙ ap (λ k. value_to p g e ⊕ k ⊗ power g e) constant
          ∙ sym (value_to-next p g e);
    }

pub returns : goal.returns
returns c =
    let f : Vec ℕ Global → List ℕ = λ r. r.items in
    let rows = c.rows-rows.result.now in
    let size = length-map c.args.q.now (λ r. coef r 0) in
    record {
      size = c.loop-e.invariant.size;
      each = λ g l. c.loop-e.invariant.sums g l
          ∙ value_to-all (column c.args.q.now 0) g c.loop-e.e
          (omega (arith, c.loop-e-test.false, c.loop-e.auto.e-end, sym (length-map rows f) ∙ ap length c.rows-rows.ensures, size));
    }
