use Rattle.std.proofs.Common.{◌+◌, List, ℕ, [], map, drop, sym, ap, subst, ◌∙◌, arith, take_at, Vec, Global}
use Rattle.std.proofs.Math.Seq.{map-set}
use Rattle.std.proofs.lemmas.List.{get_or-map, length-map}
use Rattle.bi_poly.specs.Degree.{without_first}
use Rattle.bi_poly.proofs.Strip.{IsStrippedBelow, stripped-start, stripped-more, stripped-all}
use Rattle.bi_poly.proofs.BiPoly.strip_x.Goals as goal

pub loop-row-init : goal.loop-row-init
loop-row-init c = stripped-start _ _

pub loop-row-preserved : goal.loop-row-preserved
loop-row-preserved c =
    let f : Vec ℕ Global → List ℕ = λ r. r.items in
    let rows = c.loop-row.row-items in
    let i = c.loop-row.row-index in
    let n = c.in-Some.order in
    let before = map f c.deref_mut-row-items.result.now in
    let size = length-map rows f in
    subst (λ now. IsStrippedBelow n (i + 1) now before) (sym (map-set f rows i c.drop_first.new.p))
    (stripped-more n i (map f rows) before c.drop_first.new.p.items (omega arith) c.loop-row.invariant
    (c.drop_first.ensures ∙ ap (drop n) (sym (get_or-map f rows i c.row-item.result [] (omega arith)))))

pub returns-clause-quotient : goal.returns-clause-quotient
returns-clause-quotient c =
    let f : Vec ℕ Global → List ℕ = λ r. r.items in
    let rows = c.loop-row.row-items in
    let n = c.in-Some.order in
    let before = c.deref_mut-row-items.result.now in
    let size = length-map before f in
    ap (map f) (take_at rows _ c.self.inside.rows.len (c.loop-row.auto.row-items ∙ c.deref_mut-row-items.ensures.len))
    ∙ stripped-all n c.loop-row.row-index (map f rows) (map f before) (omega arith) c.loop-row.invariant
    ∙ ap (without_first n) (ap (map f) c.deref_mut-row-items.ensures.value ∙ c.self.view_is)
