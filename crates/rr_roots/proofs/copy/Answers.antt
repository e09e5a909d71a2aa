use Rattle.std.proofs.Common.{◌≡◌, ◌+◌, ◌<◌, ◌≤◌, ℕ, List, [], ◌∷◌, ◌++◌, length, map, get_or, take, sym, ap, ◌∙◌, Vec, Global}
use Rattle.std.proofs.lemmas.List.{map_push, map_more, take_all}
use Rattle.std.proofs.lemmas.Result.{IfOk-from_err}
use borrow.Author.Count.{falls}
use Rattle.rr_roots.proofs.copy.Goals as goal

-- what contracts see of the rows
abbrev seen : List (Vec ℕ Global) → List (List ℕ)
seen = map (λ r. r.items)

-- a row more
copied : (done new rows : List (Vec ℕ Global)) (i : ℕ) (r d : Vec ℕ Global) → i < length rows → seen done ≡ seen (take i rows) → new ≡ done ++ r ∷ [] → r.items ≡ d.items → d ≡ get_or rows i d
    → seen new ≡ seen (take (i + 1) rows)
copied done new rows i r d within same pushed row at =
    ap seen pushed ∙ map_push (λ r. r.items) done r ∙ ap (λ ys. ys ++ r.items ∷ []) same
    ∙ ap (λ x. seen (take i rows) ++ x ∷ []) (row ∙ ap (λ (r : Vec ℕ Global). r.items) at) ∙ sym (map_more (λ r. r.items) rows i d within)

-- all rows
all_copied : (done rows : List (Vec ℕ Global)) (i : ℕ) (q made : List (List ℕ)) → made ≡ seen done → seen done ≡ seen (take i rows) → length rows ≤ i → seen rows ≡ q → made ≡ q
all_copied done rows i q made is same past view = is ∙ same ∙ ap seen (take_all i rows past) ∙ view

pub loop-row-init : goal.loop-row-init
loop-row-init c = ap seen c.in_ok-rows.ensures.items

pub loop-row-preserved : goal.loop-row-preserved
loop-row-preserved c =
    copied c.loop-row.rows.items c.push.new.self.items c.rows-row-items.result.now c.loop-row.row-index c.in_ok-from_slice.field-0 c.row-item.result c.loop-row-test.true
    c.loop-row.invariant c.in_ok-push.ensures.items (c.in_ok-from_slice.ensures.items ∙ c.deref.ensures.value) c.row-item.is

pub loop-row-smaller : goal.loop-row-smaller
loop-row-smaller c = falls (length c.rows-row-items.result.now) c.loop-row.row-index c.loop-row-test.true

pub returns-in_err-rows : goal.returns-in_err-rows
returns-in_err-rows c = IfOk-from_err c.from_residual.result _ c.from_residual.ensures.0

pub returns-in_err-from_slice : goal.returns-in_err-from_slice
returns-in_err-from_slice c = IfOk-from_err c.from_residual-in_err-from_slice.result _ c.from_residual-in_err-from_slice.ensures.0

pub returns-in_err-push : goal.returns-in_err-push
returns-in_err-push c = IfOk-from_err c.from_residual-in_err-push.result _ c.from_residual-in_err-push.ensures.0

pub returns : goal.returns
returns c =
    all_copied c.loop-row.rows.items c.rows-row-items.result.now c.loop-row.row-index c.args.q.now c.from_rows.result
    c.from_rows.ensures c.loop-row.invariant c.loop-row-test.false c.rows-row-items.ensures

pub bounds-row-items-row-index : goal.bounds-row-items-row-index
bounds-row-items-row-index c = c.loop-row-test.true
