use Rattle.std.proofs.Common.{rules, set, ◌≡◌, ◌<◌, ◌+◌, ◌-◌, suc, length, get_or, drop, ap, sym, ◌∙◌, arith, inl, inr, le_refl, length-set, get_or-set_same, get_or-set_other}
use Rattle.std.proofs.lemmas.Bool.{cases_eq}
use Rattle.gf256.specs.Field.{◌⊕◌, ◌⊗◌}
use Rattle.gf256.specs.Polynomial.{coef, val}
use Rattle.uni_poly.proofs.Values.{val-drop, val-drop_all}
use Rattle.uni_poly.proofs.Division.{is_divided}
use Rattle.uni_poly.proofs.divide_by_linear.Goals as goal

pub loop-i-init : goal.loop-i-init
loop-i-init c =
    let p = c.args.p.now in
    record {
      rest = sym (val-drop_all p (length p) c.args.root (le_refl _));
      done = λ k a b. absurd (omega arith);
      long = search rules;
      from_one = omega arith;
    }

pub loop-i-preserved : goal.loop-i-preserved
loop-i-preserved c =
    let p = c.args.p.now in
    let r = c.args.root in
    let i = c.loop-i.i in
    let xs = c.loop-i.quotient.items in
    let v = c.add-rest.result in
    let up : i - 1 + 1 ≡ i = omega arith in
    let here : suc (i - 1 - 1) ≡ i - 1 = omega arith in
    let rest : v ≡ val (drop (i - 1) p) r =
    c.add-rest.ensures
    ∙ ap (λ x. x ⊕ get_or p (i - 1) 0) (c.mul.ensures ∙ ap (λ x. x ⊗ r) (c.loop-i.invariant.rest ∙ ap (λ k. val (drop k p) r) (sym up)))
    ∙ sym (val-drop p (i - 1) r (omega arith) (c.type_inv.p (i - 1)).fits) in
    record {
      rest = rest;
      done = λ k a b.
          elim (cases_eq k (i - 1 - 1)) [
            | inl e ↦
                let short : i - 1 - 1 < length xs = let l = c.loop-i.invariant.long in omega arith in
                ap (λ j. get_or (set xs (i - 1 - 1) v) j 0) e ∙ get_or-set_same xs (i - 1 - 1) v 0 short
                ∙ rest ∙ ap (λ j. val (drop j p) r) (sym here ∙ sym (ap suc e))
            | inr n ↦ get_or-set_other xs (i - 1 - 1) k v 0 n ∙ c.loop-i.invariant.done k (omega arith) b
          ];
      long = ap (λ n. n + 1) (length-set xs (i - 1 - 1) v) ∙ c.loop-i.invariant.long;
      from_one = omega arith;
    }

pub returns-clause-rest : goal.returns-clause-rest
returns-clause-rest c =
    let p = c.args.p.now in
    let r = c.args.root in
    let one : c.loop-i.i ≡ 0 + 1 = let o = c.loop-i.invariant.from_one in omega arith in
    c.add-rest-2.ensures
    ∙ ap (λ x. x ⊕ get_or p 0 0) (c.mul-2.ensures ∙ ap (λ x. x ⊗ r) (c.loop-i.invariant.rest ∙ ap (λ k. val (drop k p) r) one))
    ∙ sym (val-drop p 0 r c.requires (c.type_inv.p 0).fits)

pub returns-clause-divided : goal.returns-clause-divided
unfolding coef
returns-clause-divided c =
    is_divided c.args.p.now c.loop-i.quotient.items c.args.root c.add-rest-2.result (λ e. (c.type_inv.p e).fits) c.loop-i.invariant.long
    (returns-clause-rest c) (λ k l. c.loop-i.invariant.done k (omega arith) l)
