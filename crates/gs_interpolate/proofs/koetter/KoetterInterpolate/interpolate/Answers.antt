use Rattle.std.proofs.Common.{◌≡◌, ◌+◌, ◌*◌, ◌/◌, ◌≤◌, List, [], ◌∷◌, ℕ, length, sum, get_or, sym, ap, subst, ◌∙◌, arith, inl, inr, take_at}
use Rattle.std.proofs.Math.Nat.{div-le_self}
use Rattle.std.proofs.lemmas.Bool.{cases_lt}
use Rattle.std.proofs.lemmas.List.{get_or_default}
use Rattle.std.proofs.lemmas.Result.{IfOk-weaker}
use Rattle.interpolation.specs.Interpolant.{IsInterpolant}
use Rattle.interpolation.specs.Monomials.{conditions}
use Rattle.interpolation.specs.declared.TheConstants.{MOST_MULTIPLICITY}
use Rattle.gs_interpolate.specs.Steps.{HaveLanes}
use Rattle.gs_interpolate.specs.Basis.{HaveZero, IsPassing}
use Rattle.gs_interpolate.specs.Layout.{IsLayout}
use Rattle.gs_interpolate.proofs.Passing.{conditions-next, conditions-more}
use Rattle.gs_interpolate.proofs.Lightest.{lightest_interpolates}
use Rattle.gs_interpolate.proofs.koetter.KoetterInterpolate.interpolate.Goals as goal

-- rows that have coefficients are some
some_rows : (ns : List ℕ) → 1 ≤ sum ns → 1 ≤ length ns
some_rows [] h = absurd (omega arith)
some_rows (n ∷ ns) h = omega arith

-- the conditions of a zero at one point
one_point : (m : ℕ) → conditions 1 m ≡ m * (m + 1) / 2
one_point m = let one : 1 * m ≡ m = omega arith in ap (λ k. k * (m + 1) / 2) one

pub overflow_mul-conditions : goal.overflow_mul-conditions
overflow_mul-conditions c = omega arith

pub overflow_add-conditions : goal.overflow_add-conditions
overflow_add-conditions c = omega arith

pub overflow_mul-conditions-2 : goal.overflow_mul-conditions-2
overflow_mul-conditions-2 c = omega arith

pub overflow_cast-conditions-3 : goal.overflow_cast-conditions-3
overflow_cast-conditions-3 c = omega arith

pub overflow_add-conditions-2 : goal.overflow_add-conditions-2
overflow_add-conditions-2 c = omega arith

pub row_lengths-requires-clause-enough : goal.row_lengths-requires-clause-enough
row_lengths-requires-clause-enough c = omega arith

pub new-requires-clause-some : goal.new-requires-clause-some
new-requires-clause-some c =
    let some = some_rows c.in_ok-lengths.lengths.items (let size = c.in_ok-lengths.ensures.sum in omega arith) in
    omega (arith, some, c.len.ensures)

pub new-requires-clause-few : goal.new-requires-clause-few
new-requires-clause-few c = omega (arith, c.in_ok-lengths.ensures.rows, c.len.ensures, div-le_self c.args.d c.args.t)

pub pass-requires-clause-room : goal.pass-requires-clause-room
pass-requires-clause-room c =
    let more = conditions-more c.loop-a.a-index (length c.args.points.now) c.args.m c.loop-a-test.true in
    omega (arith, more, c.loop-a.invariant.few, c.requires.few, ap (conditions 1) c.loop-a.invariant.order)

pub loop-a-init : goal.loop-a-init
loop-a-init c =
    let made = c.in_ok-basis.ensures in
    record {
      weight = made.weight;
      degree = made.degree;
      size = let size = made.size in omega (arith, size, c.len.ensures);
      basis = made.basis;
      zeros = λ k l. absurd (omega (arith, l));
      lanes = c.in_ok-window.ensures.0 ∙ c.lanes.ensures.lanes;
      order = c.in_ok-window.ensures.1;
      steps = subst (λ n. HaveLanes n c.in_ok-steps.steps.items) c.lanes-2.ensures.lanes c.in_ok-steps.ensures.lanes;
      enough = c.in_ok-steps.ensures.count ∙ sym (one_point c.args.m);
      few = let none = made.exponents in omega (arith, none);
    }

pub loop-a-preserved : goal.loop-a-preserved
loop-a-preserved c =
    let h = c.loop-a.invariant in
    let i = c.loop-a.a-index in
    let m = c.args.m in
    let points = c.args.points.now in
    let new = c.pass.new.self in
    let made = c.in_ok-window-2.ensures.window in
    let passed = subst (IsPassing c.loop-a.basis new (get_or points i (0, 0)).0 (get_or points i (0, 0)).1) h.order c.in_ok-window-2.ensures.passing in
    let alike = ap (λ s. s.lanes) passed.alike in
    record {
      weight = ap (λ s. s.t) passed.alike ∙ h.weight;
      degree = ap (λ s. s.d) passed.alike ∙ h.degree;
      size = passed.size ∙ h.size;
      basis = passed.basis;
      zeros = λ k l.
          elim (cases_lt k i) [
            | inl below ↦ passed.kept _ _ m (h.zeros k below)
            | inr past ↦
                let same : i ≡ k = omega (arith, l, past) in
                subst (λ x. HaveZero new (get_or points x (0, 0)).0 (get_or points x (0, 0)).1 m) same passed.zeros
          ];
      lanes = made.0 ∙ sym alike;
      order = made.1 ∙ h.order;
      steps =
          subst (λ xs. HaveLanes new.lanes xs) (sym (take_at c.pass.new.steps _ c.loop-a.steps.len (c.pass.auto.steps ∙ c.deref_mut.ensures.len)))
          (subst (λ n. HaveLanes n c.pass.new.steps) (sym alike) c.in_ok-window-2.ensures.steps);
      enough =
          ap length (take_at c.pass.new.steps _ c.loop-a.steps.len (c.pass.auto.steps ∙ c.deref_mut.ensures.len))
          ∙ c.pass.auto.steps ∙ ap length c.deref_mut.ensures.value ∙ h.enough;
      few = let rise = passed.rise in let few = h.few in let next = conditions-next i m in omega (arith, rise, few, next);
    }

pub returns : goal.returns
returns c =
    let points = c.args.points.now in
    let m = c.args.m in
    let h = c.loop-a.invariant in
    let s = c.loop-a.basis in
    let ns = c.in_ok-lengths.lengths.items in
    let all : c.loop-a.a-index ≡ length points = omega arith in
    let layout =
    subst (λ t. IsLayout ns (conditions (length points) m + 1) t s.d) (sym h.weight)
    (subst (λ d. IsLayout ns (conditions (length points) m + 1) c.args.t d) (sym h.degree) c.in_ok-lengths.ensures) in
    IfOk-weaker c.into_lightest.result _ _
    (λ q light.
    subst (λ d. IsInterpolant q points m c.args.t d) h.degree
    (subst (λ t. IsInterpolant q points m t s.d) h.weight
    (lightest_interpolates points m ns s q layout h.size h.basis (subst (λ k. sum s.exponents ≤ conditions k m) all h.few)
    (λ k d l. subst (λ p. HaveZero s p.0 p.1 m) (get_or_default points k (0, 0) d l) (h.zeros k (omega (arith, l, all))))
    light)))
    c.into_lightest.ensures

pub row_lengths-requires-clause-weight : goal.row_lengths-requires-clause-weight
row_lengths-requires-clause-weight c = omega arith

pub row_lengths-requires-clause-degree : goal.row_lengths-requires-clause-degree
row_lengths-requires-clause-degree c = omega arith

pub offset_bounds-points-a-index : goal.offset_bounds-points-a-index
offset_bounds-points-a-index c = omega arith

pub pass-requires-clause-multiplicity : goal.pass-requires-clause-multiplicity
pass-requires-clause-multiplicity c = subst (λ m. (1 ≤ m) × (m ≤ MOST_MULTIPLICITY)) (sym c.loop-a.invariant.order) c.requires.multiplicity

pub pass-requires-clause-basis : goal.pass-requires-clause-basis
pass-requires-clause-basis c = c.loop-a.invariant.basis

pub pass-requires-clause-lanes : goal.pass-requires-clause-lanes
pass-requires-clause-lanes c = c.loop-a.invariant.lanes

pub pass-requires-clause-steps : goal.pass-requires-clause-steps
pass-requires-clause-steps c = subst (HaveLanes c.loop-a.basis.lanes) (sym c.deref_mut.ensures.value) c.loop-a.invariant.steps

pub pass-requires-clause-enough : goal.pass-requires-clause-enough
pass-requires-clause-enough c =
    omega (arith, ap length c.deref_mut.ensures.value, c.loop-a.invariant.enough, ap (conditions 1) c.loop-a.invariant.order)

pub into_lightest-requires : goal.into_lightest-requires
into_lightest-requires c = c.loop-a.invariant.basis
