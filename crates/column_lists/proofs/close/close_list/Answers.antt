use Rattle.std.proofs.Common.{◌+◌, ◌<◌, ℕ, List, Vec, Global, length, map, nat_le, Bool, sym, ap, subst, ◌∙◌, arith}
use Rattle.std.specs.List.{filter}
use Rattle.std.proofs.lemmas.List.{length-map}
use Rattle.std.proofs.lemmas.List.Sums.{length-filter, count_by-le-length}
use Rattle.column_runs.specs.Close.{least_misses, EachMisses, IsClose}
use Rattle.column_lists.specs.Agreement.{agreements, ListsAgreeing}
use Rattle.column_lists.proofs.Near.{lists_close, lists_none}
use Rattle.column_lists.proofs.close.close_list.Goals as goal

pub returns-in_default-clause-exact : goal.returns-in_default-clause-exact
returns-in_default-clause-exact g c =
    let points = c.args.points.now in
    let each : EachMisses (least_misses c.args.t c.args.h) points c.args.t = rw c.in_default.is at c.in_ok-phi.ensures.far in
    let few : length points < c.args.h + least_misses c.args.t c.args.h = omega (arith, c.if-points-h.false, c.least_misses.ensures) in
    subst (λ list. ListsAgreeing list points c.args.t c.args.h) (sym (ap (map (λ (r : Vec ℕ Global). r.items)) c.new.ensures.items))
    (lists_none points c.args.t c.args.h each few)

pub returns-clause-exact : goal.returns-clause-exact
returns-clause-exact g c =
    let points = c.args.points.now in
    let items : Vec ℕ Global → List ℕ = λ r. r.items in
    let phi = c.in-Some.phi.items in
    let close : IsClose phi points c.args.t c.args.h = rw c.in-Some.is at c.in_ok-phi.ensures.close in
    let list = c.keep_agreeing.ensures
    ∙ ap (λ rows. filter (λ psi. nat_le c.args.h (agreements psi points)) (map items rows)) c.in_ok-list.ensures.items in
    subst (λ list. ListsAgreeing list points c.args.t c.args.h) (sym list)
    (lists_close phi points c.args.t c.args.h close c.requires.distinct c.places_are_bytes.ensures)

pub returns-in_default-clause-one : goal.returns-in_default-clause-one
returns-in_default-clause-one g c = let none = ap length c.new.ensures.items in omega (arith, none)

pub returns-clause-one : goal.returns-clause-one
returns-clause-one g c =
    let items : Vec ℕ Global → List ℕ = λ r. r.items in
    let agrees : List ℕ → Bool = λ psi. nat_le c.args.h (agreements psi c.args.points.now) in
    let kept = ap length c.keep_agreeing.ensures in
    let size = length-map c.keep_agreeing.new.list.items items in
    let before = length-map c.in_ok-list.list.items items in
    let one = ap length c.in_ok-list.ensures.items in
    let few = length-filter agrees (map items c.in_ok-list.list.items) in
    let fewer = count_by-le-length agrees (map items c.in_ok-list.list.items) in
    omega (arith, kept, size, before, one, few, fewer)
