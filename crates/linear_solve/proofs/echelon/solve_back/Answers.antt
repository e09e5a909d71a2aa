use Rattle.std.proofs.Common.{◌≡◌, ◌<◌, ◌-◌, length, get_or, set, refl, ap, sym, subst, ◌∙◌, arith, inl, inr}
use Rattle.std.proofs.lemmas.Bool.{cases_eq}
use Rattle.linear_solve.specs.Kernel.{component, inner}
use Rattle.linear_solve.specs.Echelon.{columns_of, rows_of, row_at}
use Rattle.linear_solve.proofs.InnerProducts.{inner_lt}
use Rattle.linear_solve.proofs.Pivots.{column-is, row-is, length-rows_of, length-columns_of}
use Rattle.linear_solve.proofs.Solution.{sends_this, sends_later, other_column, component-set_other, component-set-lt}
use Rattle.linear_solve.proofs.echelon.solve_back.Goals as goal

pub loop-t-init : goal.loop-t-init
unfolding component
loop-t-init c = record {
  bytes = λ k. (c.type_inv.v k).fits;
  sent_to_zero = λ s h k. absurd (omega (arith, h, k));
  clear = c.requires.clear;
  kept = λ k f. refl;
}

pub inner_product-value-requires : goal.inner_product-value-requires
inner_product-value-requires c =
    let t = c.loop-t.t - 1 in
    let ps = c.args.pivots.now in
    let l : t < length ps = omega arith in
    let here : t < length (rows_of ps) = omega (arith, length-rows_of ps, l) in
    ap length (c.deref.ensures.value ∙ row-is ps t c.index-pivots-t.result l c.index-pivots-t.is) ∙ c.requires.echelon.wide t here ∙ sym c.loop-t.auto.v

pub bounds-v-pivot : goal.bounds-v-pivot
bounds-v-pivot c =
    let t = c.loop-t.t - 1 in
    let ps = c.args.pivots.now in
    let l : t < length ps = omega arith in
    let here : t < length (rows_of ps) = omega (arith, length-rows_of ps, l) in
    let same = column-is ps t c.index-pivots-t.result l c.index-pivots-t.is in
    omega (arith, same, c.requires.echelon.inside t here, c.loop-t.auto.v)

pub loop-t-preserved : goal.loop-t-preserved
loop-t-preserved c =
    let t = c.loop-t.t - 1 in
    let ps = c.args.pivots.now in
    let cs = columns_of ps in
    let rs = rows_of ps in
    let v = c.loop-t.v in
    let n = length c.args.v.now in
    let d = c.inner_product-value.result in
    let E = c.requires.echelon in
    let l : t < length ps = omega arith in
    let many = length-rows_of ps in
    let here : t < length rs = omega (arith, many, l) in
    let row = c.deref.ensures.value ∙ row-is ps t c.index-pivots-t.result l c.index-pivots-t.is in
    let column = column-is ps t c.index-pivots-t.result l c.index-pivots-t.is in
    let is : d ≡ inner (component (row_at rs t)) v n =
    c.inner_product-value.ensures ∙ ap (λ r. inner (component r) v (length r)) row ∙ ap (inner (component (row_at rs t)) v) (E.wide t here) in
    record {
      bytes = λ k. component-set-lt v _ d k (omega (arith, column, E.inside t here, c.loop-t.auto.v)) (rw is (inner_lt _ v n)) (c.loop-t.invariant.bytes k);
      sent_to_zero = λ s h k.
          rw column
          elim (cases_eq s t) [
            | inl e ↦ subst (λ j. inner (component (row_at rs j)) (set v (get_or cs t 0) d) n ≡ 0) (sym e) (sends_this cs rs v n E c.loop-t.auto.v t here d is (c.loop-t.invariant.clear t (omega arith)))
            | inr e ↦ sends_later cs rs v n E c.loop-t.auto.v t here d is s (omega (arith, h, e)) (omega (arith, many, k)) (c.loop-t.invariant.sent_to_zero s (omega (arith, h, e)) k)
          ];
      clear = λ s h. rw column (component-set_other v (get_or cs t 0) d (get_or cs s 0) (other_column cs rs n E s t h here) ∙ c.loop-t.invariant.clear s (omega arith));
      kept = λ k f. rw column (component-set_other v (get_or cs t 0) d k (λ e. f.apart t (omega (arith, length-columns_of ps, l)) (sym e)) ∙ c.loop-t.invariant.kept k f);
    }

pub returns-clause-sent_to_zero : goal.returns-clause-sent_to_zero
returns-clause-sent_to_zero c = λ t l. c.loop-t.invariant.sent_to_zero t (omega arith) (omega (arith, l, length-rows_of c.args.pivots.now))
