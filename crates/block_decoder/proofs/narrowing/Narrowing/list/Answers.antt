use Rattle.std.proofs.Common.{◌≢◌, ◌⊎◌, inl, refl, ◌+◌, ◌*◌, ◌<◌, ◌≤◌, ℕ, length, All, AllPairs, sym, ap, subst, ◌∙◌, arith, ◌≡◌, List, map, IfOk, Vec, Global, le_refl}
use Rattle.column_lists.specs.declared.TheConstants.{MOST_COST}
use Rattle.column_lists.specs.Numbers.{cost}
use Rattle.block_decoder.specs.Narrowing.{nodes_at, AreFarIn, ListsIn}
use Rattle.block_decoder.proofs.Kept.{length-points, points-All, points-different}
use Rattle.std.proofs.Math.Nat.{le-add_right}
use Rattle.std.proofs.lemmas.Result.{IfOk-from_err}
use Rattle.block_decoder.proofs.narrowing.Narrowing.list.Goals as goal

pub points-requires : goal.points-requires
points-requires g c = c.requires.column

-- ---- what the points are, where they were made

pub list_points-requires-clause-agreement : goal.list_points-requires-clause-agreement
list_points-requires-clause-agreement g c =
    let size = ap length (c.deref.ensures.value ∙ c.in_ok-points.ensures) ∙ length-points c.args.kept.now c.args.column in
    subst (λ (n : ℕ). c.args.self.now.decoding.agreement ≤ n) (sym size) c.requires.enough

pub list_points-requires-clause-few : goal.list_points-requires-clause-few
list_points-requires-clause-few g c =
    let size = ap length (c.deref.ensures.value ∙ c.in_ok-points.ensures) ∙ length-points c.args.kept.now c.args.column in
    let few = c.requires.listed.few in
    omega (arith, size, few)

pub list_points-requires-clause-strong : goal.list_points-requires-clause-strong
list_points-requires-clause-strong g c =
    let d = c.args.self.now.decoding in
    let size = ap length (c.deref.ensures.value ∙ c.in_ok-points.ensures) ∙ length-points c.args.kept.now c.args.column in
    subst (λ (n : ℕ). n * d.degree < d.agreement * d.agreement) (sym size) c.requires.listed.strong

pub list_points-requires-clause-cheap : goal.list_points-requires-clause-cheap
list_points-requires-clause-cheap g c =
    let d = c.args.self.now.decoding in
    let size = ap length (c.deref.ensures.value ∙ c.in_ok-points.ensures) ∙ length-points c.args.kept.now c.args.column in
    subst (λ (n : ℕ). cost n d.degree d.agreement ≤ MOST_COST) (sym size) c.requires.listed.cheap

pub list_points-requires-clause-distinct : goal.list_points-requires-clause-distinct
list_points-requires-clause-distinct g c =
    subst (AllPairs (λ (p q : ℕ × ℕ). p.0 ≢ q.0)) (sym (c.deref.ensures.value ∙ c.in_ok-points.ensures))
    (points-different c.args.kept.now c.args.column c.requires.listed.different)

pub list_points-requires-clause-nonzero : goal.list_points-requires-clause-nonzero
list_points-requires-clause-nonzero g c =
    subst (All (λ (p : ℕ × ℕ). p.0 ≢ 0)) (sym (c.deref.ensures.value ∙ c.in_ok-points.ensures))
    (points-All c.args.kept.now c.args.column (λ x. x ≢ 0) c.requires.listed.nonzero)

pub returns-clause-exact : goal.returns-clause-exact
returns-clause-exact g c =
    subst (λ (points : List (ℕ × ℕ)). IfOk c.list_points.result (λ list. ListsIn c.args.self.now.decoding points (map (λ (r : Vec ℕ Global). r.items) list.items)))
    (c.deref.ensures.value ∙ c.in_ok-points.ensures) c.list_points.ensures.exact

pub returns-clause-cols : goal.returns-clause-cols
returns-clause-cols g c = c.list_points.ensures.cols

pub returns-clause-some : goal.returns-clause-some
returns-clause-some g c = c.list_points.ensures.some

pub returns-clause-nodes : goal.returns-clause-nodes
returns-clause-nodes g c =
    let size = ap length (c.deref.ensures.value ∙ c.in_ok-points.ensures) ∙ length-points c.args.kept.now c.args.column in
    subst (λ (n : ℕ). c.list_points.new.nodes ≤ c.args.nodes.now + nodes_at c.args.self.now.decoding n) size c.list_points.ensures.nodes

pub returns-clause-rises : goal.returns-clause-rises
returns-clause-rises g c = c.list_points.ensures.rises

pub returns-clause-far : goal.returns-clause-far
returns-clause-far g c =
    subst (λ (points : List (ℕ × ℕ)). (c.list_points.new.nodes ≡ c.args.nodes.now) ⊎ AreFarIn c.args.self.now.decoding points)
    (c.deref.ensures.value ∙ c.in_ok-points.ensures) c.list_points.ensures.far

-- ---- where there was no memory for them

pub returns-in_err-points-clause-exact : goal.returns-in_err-points-clause-exact
returns-in_err-points-clause-exact g c = IfOk-from_err c.from_residual.result _ c.from_residual.ensures.0

pub returns-in_err-points-clause-cols : goal.returns-in_err-points-clause-cols
returns-in_err-points-clause-cols g c = le-add_right c.args.cols.now 1

pub returns-in_err-points-clause-some : goal.returns-in_err-points-clause-some
returns-in_err-points-clause-some g c = IfOk-from_err c.from_residual.result _ c.from_residual.ensures.0

pub returns-in_err-points-clause-nodes : goal.returns-in_err-points-clause-nodes
returns-in_err-points-clause-nodes g c = le-add_right c.args.nodes.now _

pub returns-in_err-points-clause-rises : goal.returns-in_err-points-clause-rises
returns-in_err-points-clause-rises g c = (le_refl c.args.cols.now, le_refl c.args.nodes.now)

pub returns-in_err-points-clause-far : goal.returns-in_err-points-clause-far
returns-in_err-points-clause-far g c = inl refl

pub returns-clause-several : goal.returns-clause-several
returns-clause-several g c = c.list_points.ensures.several

pub returns-in_err-points-clause-several : goal.returns-in_err-points-clause-several
returns-in_err-points-clause-several g c = IfOk-from_err c.from_residual.result _ c.from_residual.ensures.0
