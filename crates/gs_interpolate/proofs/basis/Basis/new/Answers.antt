use Rattle.std.proofs.Common.{◌≡◌, ◌+◌, ◌*◌, ◌/◌, ◌%◌, ◌^◌, ◌≤◌, List, [], ◌∷◌, ℕ, length, map, sum, get_or, refl, sym, ap, subst, ◌∙◌, arith, mul-le-mul, Vec, Global}
use Rattle.std.proofs.Math.Nat.{mul-mod_left}
use Rattle.std.proofs.lemmas.List.{length-map, map-append, length-replicate, get_or-replicate}
use Rattle.std.proofs.lemmas.List.Folds.{sum_by-replicate}
use Rattle.std.proofs.lemmas.Result.{IfOk-from_err}
use borrow.Author.Count.{falls, below_none}
use Rattle.bi_poly.specs.Rows.{row}
use Rattle.gs_interpolate.specs.Family.{member}
use Rattle.gs_interpolate.specs.Basis.{IsLed, IsPowerRow}
use Rattle.gs_interpolate.specs.declared.basis.TheConstants.{MOST_PLACES}
use Rattle.gs_interpolate.proofs.Leading.{led-power}
use Rattle.gs_interpolate.proofs.Pushed.{pushed_size, pushed_each}
use Rattle.gs_interpolate.proofs.basis.Basis.new.Goals as goal

pub returns : goal.returns
returns c =
    let f : Vec ℕ Global → List ℕ = λ r. r.items in
    let n = c.args.n in
    let lanes = (n + 15) / 16 * 16 in
    let rows = map f c.loop-j.rows.items in
    let all : length rows ≡ n = omega (arith, length-map c.loop-j.rows.items f, c.loop-j.invariant.size) in
    let wide : length rows ≤ lanes = omega (arith, all) in
    let zeros = c.in_ok-exponents.ensures.items_if_clones_equal (λ y e. e) in
    let once : 1 * lanes ≡ lanes = omega arith in
    record {
      weight = refl;
      degree = refl;
      size = all;
      basis = record {
        size = ap length zeros ∙ length-replicate n 0 ∙ sym all;
        wide = wide;
        whole = λ j l.
            let power = c.loop-j.invariant.each j (omega (arith, l, all)) in
            ap (λ k. k % lanes) (power.size ∙ sym once) ∙ mul-mod_left 1 lanes;
        each = λ j l _.
            subst (λ e. IsLed c.args.t (member lanes rows j) e j) (sym (ap (λ es. get_or es j 0) zeros ∙ get_or-replicate n j 0 0 (omega (arith, l, all))))
            (led-power c.args.t lanes rows wide (λ k h. c.loop-j.invariant.each k (omega (arith, h, all))) j l);
      };
      exponents = ap sum zeros ∙ sum_by-replicate (λ (x : ℕ). x) n 0 ∙ (let none : n * 0 ≡ 0 = omega arith in none);
    }

pub invariant_of-result : goal.invariant_of-result
invariant_of-result c =
    let f : Vec ℕ Global → List ℕ = λ r. r.items in
    let all : length (map f c.loop-j.rows.items) ≡ c.args.n = omega (arith, length-map c.loop-j.rows.items f, c.loop-j.invariant.size) in
    let exponents = ap length (c.in_ok-exponents.ensures.items_if_clones_equal (λ y e. e)) ∙ length-replicate c.args.n 0 in
    record {
      weight = c.requires.weight;
      width = omega (arith, c.requires.few);
      places = omega (arith, all, c.requires.few);
      some = omega (arith, all, c.requires.some);
      wide = omega (arith, all);
      size = exponents ∙ sym all;
    }

pub overflow_add-lanes : goal.overflow_add-lanes
overflow_add-lanes c = omega arith

pub overflow_mul-lanes : goal.overflow_mul-lanes
overflow_mul-lanes c = omega arith

pub power_row-requires-clause-inside : goal.power_row-requires-clause-inside
power_row-requires-clause-inside c = omega (arith, c.loop-j-test.true)

pub power_row-requires-clause-small : goal.power_row-requires-clause-small
power_row-requires-clause-small c =
    let few : c.saturating_sub-powers.result ≤ 2 ^ 32 = omega (arith, c.saturating_sub-powers.ensures) in
    let wide : (c.args.n + 15) / 16 * 16 ≤ 2 ^ 18 = omega (arith, c.requires.few) in
    omega (arith, mul-le-mul few wide)

pub overflow_mul-t : goal.overflow_mul-t
overflow_mul-t c =
    let place : c.loop-j.j ≤ MOST_PLACES = omega (arith, c.loop-j-test.true, c.requires.few) in
    omega (arith, mul-le-mul c.requires.weight place)

pub returns-in_err-rows : goal.returns-in_err-rows
returns-in_err-rows c = IfOk-from_err c.from_residual.result _ c.from_residual.ensures.0

pub loop-j-init : goal.loop-j-init
loop-j-init c = record {
  size = ap length c.in_ok-rows.ensures.items;
  each = below_none (λ k. IsPowerRow ((c.args.n + 15) / 16 * 16) (row (map (λ r. r.items) c.in_ok-rows.rows.items) k) k);
}

pub loop-j-smaller : goal.loop-j-smaller
loop-j-smaller c = falls c.args.n c.loop-j.j c.loop-j-test.true

pub loop-j-preserved : goal.loop-j-preserved
loop-j-preserved c =
    let f : Vec ℕ Global → List ℕ = λ r. r.items in
    let made = c.in_ok-power_row.field-0 in
    let old = c.loop-j.rows.items in
    let new = c.push.new.self.items in
    record {
      size = pushed_size old new made c.loop-j.j c.in_ok-push.ensures.items c.loop-j.invariant.size;
      each = pushed_each (λ k r. IsPowerRow ((c.args.n + 15) / 16 * 16) r k) [] (map f old) (map f new) made.items c.loop-j.j
          (ap (map f) c.in_ok-push.ensures.items ∙ map-append f old (made ∷ []))
          (length-map old f ∙ c.loop-j.invariant.size) c.loop-j.invariant.each c.in_ok-power_row.ensures;
    }

pub returns-in_err-power_row : goal.returns-in_err-power_row
returns-in_err-power_row c = IfOk-from_err c.from_residual-in_err-power_row.result _ c.from_residual-in_err-power_row.ensures.0

pub returns-in_err-push : goal.returns-in_err-push
returns-in_err-push c = IfOk-from_err c.from_residual-in_err-push.result _ c.from_residual-in_err-push.ensures.0

pub returns-in_err-exponents : goal.returns-in_err-exponents
returns-in_err-exponents c = IfOk-from_err c.from_residual-in_err-exponents.result _ c.from_residual-in_err-exponents.ensures.0
