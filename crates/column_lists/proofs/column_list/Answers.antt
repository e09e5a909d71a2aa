use Rattle.std.proofs.Common.{List, ℕ, ◌≡◌, ◌≤◌, map, All, sym, ap, subst, ◌∙◌, Vec, Global, arith, ◌<◌, refl}
use Rattle.std.proofs.Math.Nat.{le_refl, le-add_right}
use Rattle.gf256.specs.Polynomial.{val}
use Rattle.column_lists.specs.Agreement.{ListsAgreeing}
use Rattle.column_runs.proofs.OnOne.{off_one}
use Rattle.column_lists.proofs.OnOne.{lists_one}
use Rattle.std.proofs.lemmas.Result.{IfOk-from_err, IfOk-weaker}
use Rattle.column_lists.proofs.column_list.Goals as goal

-- there are more points than the degree
first_enough : (t h k : ℕ) → t < h → h ≤ k → t < k
first_enough t h k less l = omega (arith, less, l)

pub returns-in_err-first-clause-most : goal.returns-in_err-first-clause-most
returns-in_err-first-clause-most g c = le-add_right c.args.nodes.now _

pub returns-in_err-vec-clause-most : goal.returns-in_err-vec-clause-most
returns-in_err-vec-clause-most g c = le-add_right c.args.nodes.now _

pub returns-then-lie_on-clause-most : goal.returns-then-lie_on-clause-most
returns-then-lie_on-clause-most g c = le-add_right c.args.nodes.now _

pub returns-clause-most : goal.returns-clause-most
returns-clause-most g c = c.list_roots.ensures.most

pub list_roots-requires-clause-strong : goal.list_roots-requires-clause-strong
list_roots-requires-clause-strong g c = c.requires.strong

pub list_roots-requires-clause-cheap : goal.list_roots-requires-clause-cheap
list_roots-requires-clause-cheap g c = c.requires.cheap

pub returns-then-lie_on-clause-exact : goal.returns-then-lie_on-clause-exact
returns-then-lie_on-clause-exact g c =
    let f : Vec ℕ Global → List ℕ = λ r. r.items in
    let points = c.args.points.now in
    let phi = c.in_ok-first.first.items in
    let on = subst (λ q. All (λ p. val q p.0 ≡ p.1) points) c.deref.ensures.value (c.lie_on.ensures.0 c.if-lie_on.true) in
    subst (λ list. ListsAgreeing list points c.args.t c.args.h) (sym (ap (map f) c.in_ok-vec.ensures.items))
    (lists_one phi points c.args.t c.args.h c.requires.redundant c.requires.agreement c.in_ok-first.ensures.polynomial on c.requires.distinct c.places_are_bytes.ensures)

pub returns-clause-short : goal.returns-clause-short
returns-clause-short g c = λ one.
    absurd (off_one c.deref.result.now c.args.points.now c.args.t c.lie_on.result c.if-lie_on.false c.lie_on.ensures
    (λ psi is on. c.in_ok-first.ensures.only psi is on ∙ sym c.deref.ensures.value) one)

pub returns-in_err-first-clause-cols : goal.returns-in_err-first-clause-cols
returns-in_err-first-clause-cols g c = c.tick.ensures

pub returns-in_err-first-clause-short : goal.returns-in_err-first-clause-short
returns-in_err-first-clause-short g c = λ one. refl

pub returns-in_err-first-clause-rises : goal.returns-in_err-first-clause-rises
returns-in_err-first-clause-rises g c = le_refl c.args.nodes.now

pub returns-in_err-vec-clause-cols : goal.returns-in_err-vec-clause-cols
returns-in_err-vec-clause-cols g c = c.tick.ensures

pub returns-in_err-vec-clause-short : goal.returns-in_err-vec-clause-short
returns-in_err-vec-clause-short g c = λ one. refl

pub returns-in_err-vec-clause-rises : goal.returns-in_err-vec-clause-rises
returns-in_err-vec-clause-rises g c = le_refl c.args.nodes.now

pub returns-then-lie_on-clause-cols : goal.returns-then-lie_on-clause-cols
returns-then-lie_on-clause-cols g c = c.tick.ensures

pub returns-then-lie_on-clause-short : goal.returns-then-lie_on-clause-short
returns-then-lie_on-clause-short g c = λ one. refl

pub returns-then-lie_on-clause-rises : goal.returns-then-lie_on-clause-rises
returns-then-lie_on-clause-rises g c = le_refl c.args.nodes.now

pub returns-clause-exact : goal.returns-clause-exact
returns-clause-exact g c = c.list_roots.ensures.exact

pub returns-clause-cols : goal.returns-clause-cols
returns-clause-cols g c = c.tick.ensures

pub returns-clause-rises : goal.returns-clause-rises
returns-clause-rises g c = c.list_roots.ensures.rises

pub list_roots-requires-clause-degree : goal.list_roots-requires-clause-degree
list_roots-requires-clause-degree g c = c.requires.degree

pub list_roots-requires-clause-redundant : goal.list_roots-requires-clause-redundant
list_roots-requires-clause-redundant g c = c.requires.redundant

pub list_roots-requires-clause-agreement : goal.list_roots-requires-clause-agreement
list_roots-requires-clause-agreement g c = c.requires.agreement

pub list_roots-requires-clause-points : goal.list_roots-requires-clause-points
list_roots-requires-clause-points g c = c.requires.points

pub list_roots-requires-clause-distinct : goal.list_roots-requires-clause-distinct
list_roots-requires-clause-distinct g c = c.requires.distinct

pub list_roots-requires-clause-nonzero : goal.list_roots-requires-clause-nonzero
list_roots-requires-clause-nonzero g c = c.requires.nonzero

pub list_roots-requires-clause-bytes : goal.list_roots-requires-clause-bytes
list_roots-requires-clause-bytes g c = c.places_are_bytes.ensures

pub through_first-requires-clause-distinct : goal.through_first-requires-clause-distinct
through_first-requires-clause-distinct g c = c.requires.distinct

pub through_first-requires-clause-enough : goal.through_first-requires-clause-enough
through_first-requires-clause-enough g c = first_enough c.args.t c.args.h _ c.requires.redundant c.requires.agreement

pub returns-clause-least : goal.returns-clause-least
returns-clause-least g c = IfOk-weaker c.list_roots.result _ _ (λ list least some apart. least some) c.list_roots.ensures.least

pub returns-then-lie_on-clause-least : goal.returns-then-lie_on-clause-least
returns-then-lie_on-clause-least g c = λ some apart.
    let on = subst (λ q. All (λ p. val q p.0 ≡ p.1) c.args.points.now) c.deref.ensures.value (c.lie_on.ensures.0 c.if-lie_on.true) in
    absurd (apart (c.in_ok-first.first.items, c.in_ok-first.ensures.polynomial, on))

pub returns-in_err-first-clause-exact : goal.returns-in_err-first-clause-exact
returns-in_err-first-clause-exact g c = IfOk-from_err c.from_residual.result _ c.from_residual.ensures.0

pub returns-in_err-first-clause-least : goal.returns-in_err-first-clause-least
returns-in_err-first-clause-least g c = IfOk-from_err c.from_residual.result _ c.from_residual.ensures.0

pub returns-in_err-vec-clause-exact : goal.returns-in_err-vec-clause-exact
returns-in_err-vec-clause-exact g c = IfOk-from_err c.from_residual-in_err-vec.result _ c.from_residual-in_err-vec.ensures.0

pub returns-in_err-vec-clause-least : goal.returns-in_err-vec-clause-least
returns-in_err-vec-clause-least g c = IfOk-from_err c.from_residual-in_err-vec.result _ c.from_residual-in_err-vec.ensures.0
