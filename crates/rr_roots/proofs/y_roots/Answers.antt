use Rattle.std.proofs.Common.{◌≡◌, ◌<◌, ◌≤◌, ◌+◌, ℕ, List, [], length, map, sym, ap, subst, ◌∙◌, arith, Vec, Global}
use Rattle.bi_poly.specs.Rows.{IsZero}
use Rattle.rr_roots.specs.Descent.{Appends, IsRootOfSize}
use Rattle.rr_roots.specs.Values.{ArePowers}
use Rattle.rr_roots.specs.Roots.{HasDegreeInYAtMost}
use Rattle.std.proofs.Math.Nat.{le_refl, le-add_right}
use Rattle.std.proofs.lemmas.List.{length-map}
use Rattle.std.proofs.lemmas.Result.{IfOk-from_err}
use Rattle.rr_roots.proofs.Children.{lowest_degree}
use Rattle.rr_roots.proofs.Levels.{listed}
use Rattle.rr_roots.proofs.y_roots.Goals as goal

-- what is as much is at most as much
same_size : (a b : ℕ) → a ≡ b → a ≤ b
same_size a b same = omega (arith, same)

pub returns-in_err-descend-clause-most : goal.returns-in_err-descend-clause-most
returns-in_err-descend-clause-most g c = λ d h.
    c.descend.ensures.most d (lowest_degree c.in_ok-whole.whole d (subst (λ q. HasDegreeInYAtMost q d) (sym c.in_ok-whole.ensures) h))

pub returns-clause-exact : goal.returns-clause-exact
returns-clause-exact g c =
    let new = map (λ r. r.items) c.descend.new.walk.roots.items in
    let q = c.args.q.now in
    let found = c.in_ok-descend.ensures.found in
    listed q c.args.t new
    (subst (λ old. Appends (IsRootOfSize q (c.args.t + 1)) [] old new) (ap (map (λ r. r.items)) c.new-2.ensures.items)
    (subst (λ prefix. Appends (IsRootOfSize q (c.args.t + 1)) prefix (map (λ r. r.items) c.new-2.result.items) new) c.new.ensures.items
    (subst (λ q. Appends (IsRootOfSize q (c.args.t + 1)) c.new.result.items (map (λ r. r.items) c.new-2.result.items) new) c.in_ok-whole.ensures
    found.appends)))

pub returns-clause-most : goal.returns-clause-most
returns-clause-most g c = λ d h.
    c.in_ok-descend.ensures.most d (lowest_degree c.in_ok-whole.whole d (subst (λ q. HasDegreeInYAtMost q d) (sym c.in_ok-whole.ensures) h))

pub returns-in_err-whole-clause-most : goal.returns-in_err-whole-clause-most
returns-in_err-whole-clause-most g c = λ d h. le-add_right c.args.nodes.now _

pub returns-in_err-whole-clause-rises : goal.returns-in_err-whole-clause-rises
returns-in_err-whole-clause-rises g c = le_refl c.args.nodes.now

pub returns-in_err-powers-clause-most : goal.returns-in_err-powers-clause-most
returns-in_err-powers-clause-most g c = λ d h. le-add_right c.args.nodes.now _

pub returns-in_err-powers-clause-rises : goal.returns-in_err-powers-clause-rises
returns-in_err-powers-clause-rises g c = le_refl c.args.nodes.now

pub returns-in_err-descend-clause-rises : goal.returns-in_err-descend-clause-rises
returns-in_err-descend-clause-rises g c = c.in_err-descend.ensures.rises

pub returns-clause-rises : goal.returns-clause-rises
returns-clause-rises g c = c.in_ok-descend.ensures.rises

pub returns-in_err-whole-clause-exact : goal.returns-in_err-whole-clause-exact
returns-in_err-whole-clause-exact g c = IfOk-from_err c.from_residual.result _ c.from_residual.ensures.0

pub returns-in_err-whole-clause-least : goal.returns-in_err-whole-clause-least
returns-in_err-whole-clause-least g c = IfOk-from_err c.from_residual.result _ c.from_residual.ensures.0

pub returns-in_err-powers-clause-exact : goal.returns-in_err-powers-clause-exact
returns-in_err-powers-clause-exact g c = IfOk-from_err c.from_residual-in_err-powers.result _ c.from_residual-in_err-powers.ensures.0

pub returns-in_err-powers-clause-least : goal.returns-in_err-powers-clause-least
returns-in_err-powers-clause-least g c = IfOk-from_err c.from_residual-in_err-powers.result _ c.from_residual-in_err-powers.ensures.0

pub returns-in_err-descend-clause-exact : goal.returns-in_err-descend-clause-exact
returns-in_err-descend-clause-exact g c = IfOk-from_err c.from_residual-in_err-descend.result _ c.from_residual-in_err-descend.ensures.0

pub returns-in_err-descend-clause-least : goal.returns-in_err-descend-clause-least
returns-in_err-descend-clause-least g c = IfOk-from_err c.from_residual-in_err-descend.result _ c.from_residual-in_err-descend.ensures.0

pub returns-clause-least : goal.returns-clause-least
returns-clause-least g c = λ some.
    c.in_ok-descend.ensures.least (subst (λ n. n < length c.descend.new.walk.roots.items) (sym (ap length c.new-2.ensures.items)) some)

pub descend-requires : goal.descend-requires
descend-requires g c =
    let f : Vec ℕ Global → List ℕ = λ r. r.items in
    let held = c.deref.ensures.value in
    record {
      nonzero = λ z. c.requires.nonzero (subst IsZero c.in_ok-whole.ensures z);
      enough = same_size _ _
          (ap length c.in_ok-whole.ensures ∙ sym (ap length c.rows.ensures) ∙ length-map c.rows.result.now f
          ∙ sym (length-map c.deref.result.now f ∙ ap length held ∙ c.in_ok-powers.ensures.size));
      powers_are = subst (λ rows. ArePowers (map f rows)) (sym held) c.in_ok-powers.ensures.powers;
    }
