use Rattle.std.proofs.Common.{◌≡◌, ℕ, ◌+◌, ◌≤◌, ◌^◌, List, [], ◌∷◌, length, map, sym, ap, subst, ◌∙◌, arith, Vec, Global, mul-le-mul}
use Rattle.std.proofs.lemmas.List.{length-map, map-append, get_or-map}
use Rattle.std.proofs.lemmas.Result.{IfOk-from_err}
use borrow.Author.Count.{falls, below_none}
use Rattle.bi_poly.specs.Rows.{row}
use Rattle.gs_interpolate.specs.Family.{bytes_of, AreCoefficients}
use Rattle.gs_interpolate.specs.Basis.{IsLightest}
use Rattle.gs_interpolate.specs.declared.basis.TheConstants.{MOST_PLACES}
use Rattle.gs_interpolate.proofs.Lightest.{is_lightest}
use Rattle.gs_interpolate.proofs.Pushed.{pushed_size, pushed_each}
use Rattle.gs_interpolate.proofs.basis.Basis.into_lightest.Goals as goal

pub loop-j-init : goal.loop-j-init
loop-j-init c = record {
  size = ap length c.in_ok-rows.ensures.items;
  each = below_none (λ k. AreCoefficients c.self.inside.lanes c.lightest-place.result (c.weight.result + 1)
      (row (bytes_of c.self.inside.rows.items) k) (row (bytes_of c.in_ok-rows.rows.items) k));
}

pub loop-j-smaller : goal.loop-j-smaller
loop-j-smaller c = falls c.len-j-end.result c.loop-j.j c.loop-j-test.true

pub loop-j-preserved : goal.loop-j-preserved
loop-j-preserved c =
    let f : Vec ℕ Global → List ℕ = λ r. r.items in
    let n = c.self.inside.lanes in
    let place = c.lightest-place.result in
    let count = c.weight.result + 1 in
    let rows = bytes_of c.self.inside.rows.items in
    let j = c.loop-j.j in
    let old = c.loop-j.rows.items in
    let new = c.push.new.self.items in
    let made = c.in_ok-coefficients.field-0 in
    let held : c.deref.result.now ≡ row rows j =
    c.deref.ensures.value ∙ ap f c.index.ensures ∙ sym (get_or-map f c.self.inside.rows.items j _ [] (omega arith)) in
    record {
      size = pushed_size old new made j c.in_ok-push.ensures.items c.loop-j.invariant.size;
      each = pushed_each (λ k r. AreCoefficients n place count (row rows k) r) [] (map f old) (map f new) made.items j
          (ap (map f) c.in_ok-push.ensures.items ∙ map-append f old (made ∷ []))
          (length-map old f ∙ c.loop-j.invariant.size) c.loop-j.invariant.each
          (subst (λ r. AreCoefficients n place count r made.items) held c.in_ok-coefficients.ensures);
    }

pub returns : goal.returns
returns c =
    let f : Vec ℕ Global → List ℕ = λ r. r.items in
    let s = c.args.self in
    let made = bytes_of c.loop-j.rows.items in
    let rows = ap (λ s. length s.rows) c.self.view_is in
    let count = length-map c.self.inside.rows.items f in
    let all : c.loop-j.j ≡ length s.rows = omega (arith, count, rows) in
    subst (IsLightest s) (sym c.from_rows.ensures)
    (is_lightest s made c.lightest-place.result (c.weight.result + 1) c.requires c.lightest-place.ensures (ap (λ w. w + 1) c.weight.ensures.weight)
    (length-map c.loop-j.rows.items f ∙ c.loop-j.invariant.size ∙ all)
    (λ j l.
    subst (λ g. AreCoefficients g.lanes c.lightest-place.result (c.weight.result + 1) (row g.rows j) (row made j)) c.self.view_is
    (c.loop-j.invariant.each j (omega (arith, l, all)))))

pub overflow_add-count : goal.overflow_add-count
overflow_add-count c = omega (arith, c.weight.ensures.small)

pub coefficients-requires : goal.coefficients-requires
coefficients-requires c =
    let place : c.lightest-place.result ≤ MOST_PLACES = omega (arith, c.lightest-place.ensures.inside, c.self.invariant.places, ap (λ s. length s.rows) c.self.view_is) in
    let count : c.weight.result + 1 ≤ 2 ^ 33 = omega (arith, c.weight.ensures.small) in
    omega (arith, mul-le-mul count c.self.invariant.width, place)

pub weight-requires : goal.weight-requires
weight-requires c = c.lightest-place.ensures.inside

pub returns-in_err-rows : goal.returns-in_err-rows
returns-in_err-rows c = IfOk-from_err c.from_residual.result _ c.from_residual.ensures.0

pub returns-in_err-coefficients : goal.returns-in_err-coefficients
returns-in_err-coefficients c = IfOk-from_err c.from_residual-in_err-coefficients.result _ c.from_residual-in_err-coefficients.ensures.0

pub returns-in_err-push : goal.returns-in_err-push
returns-in_err-push c = IfOk-from_err c.from_residual-in_err-push.result _ c.from_residual-in_err-push.ensures.0
