use Rattle.std.proofs.Common.{◌≡◌, ◌<◌, ℕ, List, [], length, map, get_or, All, sym, ap, ◌∙◌}
use Rattle.std.proofs.lemmas.List.{get_or-map, get_or_default}
use Rattle.gf256.specs.Polynomial.{coef}
use Rattle.bi_poly.specs.Rows.{row, cell, IsZero}
use Rattle.algebra_tests.proofs.rows.is_nonzero.Goals as goal

-- where q is 0, so is each row
row_of_zero : {V : Type 0} (items : V → List ℕ) (rows : List V) (q : List (List ℕ)) (r : V) (j : ℕ) → map items rows ≡ q → r ≡ get_or rows j r → j < length rows → IsZero q → All (λ c. c ≡ 0) (items r)
unfolding cell coef
row_of_zero items rows q r j view is l z k d m =
    let same : row q j ≡ items r = ap (λ q. row q j) (sym view) ∙ get_or-map items rows j r [] l ∙ ap items (sym is) in
    sym (get_or_default (items r) k 0 d m) ∙ sym (ap (λ r. coef r k) same) ∙ z j k

pub returns-then-not-is_zero : goal.returns-then-not-is_zero
returns-then-not-is_zero c = λ t z.
    let h = row_of_zero (λ r. r.items) c.rows-row-items.result.now c.args.q.now c.row-item.result c.loop-row.row-index c.rows-row-items.ensures c.row-item.is c.loop-row-test.true z in
    let test = (rw c.deref.ensures.value at c.is_zero.ensures).1 h in
    let no = c.if-not-is_zero.true in cc
