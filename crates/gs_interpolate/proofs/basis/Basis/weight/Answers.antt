use Rattle.std.proofs.Common.{◌+◌, ◌*◌, ◌<◌, ◌≤◌, length, get_or, ap, ◌∙◌, arith, mul-le-mul}
use Rattle.std.proofs.lemmas.List.{get_or_default}
use Rattle.gs_interpolate.specs.declared.basis.TheConstants.{MOST_PLACES}
use Rattle.gs_interpolate.proofs.basis.Basis.weight.Goals as goal

pub index-requires : goal.index-requires
index-requires c = omega (arith, c.requires, c.self.invariant.size, ap (λ s. length s.rows) c.self.view_is)

pub overflow_mul-result : goal.overflow_mul-result
overflow_mul-result c =
    let place : c.args.j ≤ MOST_PLACES = omega (arith, c.requires, c.self.invariant.places, ap (λ s. length s.rows) c.self.view_is) in
    omega (arith, mul-le-mul c.self.invariant.weight place)

pub overflow_add-result : goal.overflow_add-result
overflow_add-result c =
    let place : c.args.j ≤ MOST_PLACES = omega (arith, c.requires, c.self.invariant.places, ap (λ s. length s.rows) c.self.view_is) in
    omega (arith, mul-le-mul c.self.invariant.weight place)

pub returns-clause-weight : goal.returns-clause-weight
returns-clause-weight c =
    let j = c.args.j in
    let es = c.self.inside.exponents.items in
    let inside : j < length es = omega (arith, c.requires, c.self.invariant.size, ap (λ s. length s.rows) c.self.view_is) in
    ap (λ e. e + c.self.inside.t * j) (c.index.ensures ∙ get_or_default es j _ 0 inside)
    ∙ ap (λ s. get_or s.exponents j 0 + s.t * j) c.self.view_is

pub returns-clause-small : goal.returns-clause-small
returns-clause-small c =
    let place : c.args.j ≤ MOST_PLACES = omega (arith, c.requires, c.self.invariant.places, ap (λ s. length s.rows) c.self.view_is) in
    omega (arith, mul-le-mul c.self.invariant.weight place)
