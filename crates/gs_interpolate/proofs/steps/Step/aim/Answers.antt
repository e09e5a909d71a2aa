use Rattle.std.proofs.Common.{ℕ, ◌<◌, length, get_or, refl, sym, ap, subst, ◌∙◌, arith, take_at, length-set, get_or-set_same, get_or-set_other}
use Rattle.gs_interpolate.proofs.steps.Step.aim.Goals as goal

pub set_factors-requires-clause-same : goal.set_factors-requires-clause-same
set_factors-requires-clause-same c =
    c.requires.same ∙ sym (ap (λ s. length s.factors) c.self.view_is) ∙ sym (ap length c.deref_mut.ensures.value)

pub set_factors-requires-clause-inside : goal.set_factors-requires-clause-inside
set_factors-requires-clause-inside c = c.requires.inside

pub set_factors-requires-clause-fails : goal.set_factors-requires-clause-fails
set_factors-requires-clause-fails c = c.requires.fails

pub index_mut-requires : goal.index_mut-requires
index_mut-requires c =
    subst (λ (n : ℕ). c.args.p < n)
    (c.requires.same ∙ sym (ap (λ s. length s.factors) c.self.view_is) ∙ sym (ap length c.deref_mut.ensures.value) ∙ c.deref_mut.ensures.len) c.requires.inside

pub invariant_of-self : goal.invariant_of-self
invariant_of-self c =
    let p = c.args.p in
    let made = c.set_factors.new.factors in
    let items = take_at made _ c.self.inside.factors.len (c.set_factors.auto.factors ∙ c.deref_mut.ensures.len) in
    let size = c.set_factors.auto.factors ∙ ap length c.deref_mut.ensures.value ∙ ap (λ s. length s.factors) c.self.view_is ∙ sym c.requires.same in
    let all = length-set _ p 1 ∙ ap length items ∙ size in
    record {
      inside = subst (λ (n : ℕ). p < n) (sym all) c.requires.inside;
      few = omega (arith, all, c.requires.same, ap (λ s. length s.factors) c.self.view_is, c.self.invariant.few);
      small = c.requires.small;
    }

pub returns : goal.returns
returns c =
    let p = c.args.p in
    let made = c.set_factors.new.factors in
    let items = take_at made _ c.self.inside.factors.len (c.set_factors.auto.factors ∙ c.deref_mut.ensures.len) in
    let size = c.set_factors.auto.factors ∙ ap length c.deref_mut.ensures.value ∙ ap (λ s. length s.factors) c.self.view_is ∙ sym c.requires.same in
    record {
      size = length-set _ p 1 ∙ ap length items ∙ size;
      place = refl;
      reach = refl;
      own = get_or-set_same _ p 1 0 (subst (λ (n : ℕ). p < n) (sym (ap length items ∙ size)) c.requires.inside);
      others = λ j o. get_or-set_other _ p j 1 0 o ∙ ap (λ xs. get_or xs j 0) items ∙ c.set_factors.ensures j;
    }
