use Rattle.std.proofs.Common.{◌≡◌, ◌++◌, ◌∷◌, List, ℕ, [], length, map, sym, ap, ap₂, subst, ◌∙◌, arith, zero-add, take_at, Vec, Global}
use Rattle.std.specs.List.{range_with_len}
use Rattle.std.proofs.lemmas.List.{map-append}
use Rattle.std.proofs.lemmas.List.FromFn.{map-range_with_len_more}
use Rattle.std.proofs.lemmas.Result.{IfOk-from_err}
use borrow.Author.Count.{falls}
use Rattle.bi_poly.specs.Rows.{IsWidth}
use Rattle.bi_poly.specs.Substitution.{shifted_row}
use Rattle.bi_poly.proofs.Shift.{shifted_root}
use Rattle.bi_poly.proofs.BiPoly.shift_root.Goals as goal

pub loop-j-preserved : goal.loop-j-preserved
loop-j-preserved c =
    let f : Vec ℕ Global → List ℕ = λ r. r.items in
    let q = c.args.self.now in
    let gamma = c.args.gamma in
    let j = c.loop-j.j in
    let new = c.shifted_row.new.sums in
    let held = c.deref_mut.ensures.value in
    let same : length new ≡ length c.loop-j.sums.items = c.shifted_row.auto.sums ∙ ap length held in
    let back = take_at new _ c.loop-j.sums.len (c.shifted_row.auto.sums ∙ c.deref_mut.ensures.len) in
    let size = ap length back ∙ same in
    let row = c.in_ok-shifted_row.ensures ∙ ap (λ n. shifted_row q n gamma j) (ap length held ∙ sym size) in
    record {
      width = subst (IsWidth q) (sym size) c.loop-j.invariant.width;
      rows =
          ap (map f) c.in_ok-push.ensures.items
          ∙ map-append f c.loop-j.rows.items (c.in_ok-shifted_row.field-0 ∷ [])
          ∙ ap₂ (λ l x. l ++ x ∷ [])
          (c.loop-j.invariant.rows ∙ ap (λ n. map (shifted_row q n gamma) (range_with_len 0 j)) (sym size)) row
          ∙ sym (map-range_with_len_more (shifted_row q _ gamma) 0 j j (zero-add j));
    }

pub returns : goal.returns
returns c =
    let f : Vec ℕ Global → List ℕ = λ r. r.items in
    let q = c.args.self.now in
    let all : c.loop-j.j ≡ length q = omega arith in
    let width = length c.loop-j.sums.items in
    shifted_root q (map f c.loop-j.rows.items) width c.args.gamma c.loop-j.invariant.width
    (c.loop-j.invariant.rows ∙ ap (λ n. map (shifted_row q width c.args.gamma) (range_with_len 0 n)) all)

pub loop-j-smaller : goal.loop-j-smaller
loop-j-smaller c = falls c.len-j-end.result c.loop-j.j c.loop-j-test.true

pub returns-in_err-sums : goal.returns-in_err-sums
returns-in_err-sums c = IfOk-from_err c.from_residual.result _ c.from_residual.ensures.0

pub returns-in_err-shifted_row : goal.returns-in_err-shifted_row
returns-in_err-shifted_row c = IfOk-from_err c.from_residual-in_err-shifted_row.result _ c.from_residual-in_err-shifted_row.ensures.0

pub returns-in_err-push : goal.returns-in_err-push
returns-in_err-push c = IfOk-from_err c.from_residual-in_err-push.result _ c.from_residual-in_err-push.ensures.0

pub returns-in_err-rows : goal.returns-in_err-rows
returns-in_err-rows c = IfOk-from_err c.from_residual-in_err-rows.result _ c.from_residual-in_err-rows.ensures.0
