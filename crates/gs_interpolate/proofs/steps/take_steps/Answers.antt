use Rattle.std.proofs.Common.{◌≡◌, ◌≢◌, ℕ, ◌*◌, ◌<◌, List, [], length, map, set, get_or, sym, ap, subst, ◌∙◌, arith, inl, inr, Vec, Global, get_or-set_same, get_or-set_other, ◌≤◌, mul-le-mul}
use Rattle.std.proofs.Math.Seq.{map-set}
use Rattle.std.proofs.lemmas.Bool.{cases_lt}
use Rattle.std.proofs.lemmas.List.{get_or-map, length-map}
use Rattle.bi_poly.specs.Rows.{row}
use Rattle.gs_interpolate.specs.Steps.{TookSteps}
use Rattle.gs_interpolate.specs.declared.basis.TheConstants.{MOST_PLACES}
use Rattle.gs_interpolate.proofs.steps.take_steps.Goals as goal

pub loop-j-preserved : goal.loop-j-preserved
loop-j-preserved c =
    let f : Vec ℕ Global → List ℕ = λ r. r.items in
    let steps = c.args.steps.now in
    let all = length steps in
    let t = c.args.t in
    let j = c.loop-j.j in
    let rows = c.loop-j.rows in
    let old = map f c.args.rows.now in
    let new = c.take_in_row.new.row in
    let now = map f (set rows j new) in
    let written : now ≡ set (map f rows) j new.items = map-set f rows j new in
    let inside : j < length (map f rows) = omega (arith, length-map rows f) in
    let here : row now j ≡ new.items = ap (λ q. row q j) written ∙ get_or-set_same (map f rows) j new.items [] inside in
    let other = λ (k : ℕ) (o : k ≢ j). ap (λ q. row q k) written ∙ get_or-set_other (map f rows) j k new.items [] o in
    let held : f (get_or rows j c.index-rows-j.result) ≡ row old j = sym (get_or-map f rows j c.index-rows-j.result [] (omega arith)) ∙ c.loop-j.invariant.rest j (omega arith) in
    let took : TookSteps steps (t * j) all new.items (row old j) =
    subst (λ r. TookSteps steps (t * j) all new.items r) held c.in_ok-take_in_row.ensures in
    record {
      each = λ k l.
          elim (cases_lt k j) [
            | inl below ↦ subst (λ r. TookSteps steps (t * k) all r (row old k)) (sym (other k (λ same. omega (arith, same, below)))) (c.loop-j.invariant.each k below)
            | inr past ↦
                let same : j ≡ k = omega arith in
                subst (λ k. TookSteps steps (t * k) all (row now k) (row old k)) same
                (subst (λ r. TookSteps steps (t * j) all r (row old j)) (sym here) took)
          ];
      rest = λ k l. other k (λ same. omega (arith, same, l)) ∙ c.loop-j.invariant.rest k (omega arith);
    }

pub overflow_mul-t : goal.overflow_mul-t
overflow_mul-t c =
    let place : c.loop-j.j ≤ MOST_PLACES = omega arith in
    omega (arith, mul-le-mul c.requires.weight place)
