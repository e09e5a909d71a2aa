use Rattle.std.proofs.Common.{Contains, sym, ap, subst, inl, inr, ℕ, ◌≤◌, ◌∙◌, List, length, arith}
use Rattle.std.proofs.Math.Nat.{le-add_right}
use Rattle.std.proofs.lemmas.List.Edits.{length-insert}
use Rattle.std.specs.Result.{is_ok}
use Rattle.block_decoder.proofs.Ascending.{Contains-insert}
use Rattle.block_decoder.proofs.Reported.{same_agreements, Contains-at, rise, put_in}
use Rattle.std.proofs.lemmas.Result.{IfOk-from_err, MatchResult-from_err}
use Rattle.std.specs.List.Sorted.{IsStrictlySortedBy}
use Rattle.block_decoder.specs.Report.{Agreement, agreement_cmp}
use Rattle.block_decoder.proofs.agreements.Report.insert.Goals as goal

pub returns-in-Ok-clause-ok : goal.returns-in-Ok-clause-ok
returns-in-Ok-clause-ok c = λ b. (
  inl,
  λ either. elim either [
    | inl old ↦ old
    | inr new ↦
        let place = rw c.deref.ensures.value at c.in-Ok.ensures in
        subst (Contains c.args.self.now) (sym new)
        (subst (λ l. Contains l c.args.agreement) c.self.view_is
        (Contains-at c.args.agreement c.self.inside.agreements.items c.in-Ok.field-0 place.range (λ d. same_agreements _ _ (place.place d))))
  ],
)

pub invariant_of-self-in-Err : goal.invariant_of-self-in-Err
invariant_of-self-in-Err c =
    let agreements = c.self.inside.agreements.items in
    let is = rw c.deref.ensures.value at c.in-Err.ensures in
    let gap = is.place (rise agreements c.args.agreement c.self.invariant) in
    put_in agreements c.insert.new.self.items c.args.agreement c.in-Err.place (is_ok c.insert.result) c.insert.ensures.items c.self.invariant is.range gap.0 gap.1

pub returns-in_ok-insert-in-Err-clause-ok : goal.returns-in_ok-insert-in-Err-clause-ok
returns-in_ok-insert-in-Err-clause-ok c = λ b.
    let agreements = c.self.inside.agreements.items in
    rw c.in_ok-insert-in-Err.ensures.items (rw (← c.self.view_is) (Contains-insert agreements c.in-Err.place c.args.agreement b))

pub returns-in_ok-insert-in-Err-clause-ascending : goal.returns-in_ok-insert-in-Err-clause-ascending
returns-in_ok-insert-in-Err-clause-ascending c = invariant_of-self-in-Err c

pub insert-requires : goal.insert-requires
insert-requires c = subst (λ (n : ℕ). c.in-Err.place ≤ n) c.deref.ensures.len c.in-Err.ensures.range

pub invariant_of-self : goal.invariant_of-self
invariant_of-self c = subst (λ (agreements : List Agreement). IsStrictlySortedBy agreement_cmp agreements) (sym c.in_err-insert-in-Err.ensures.items) c.self.invariant

pub returns-in_err-insert-in-Err-clause-ascending : goal.returns-in_err-insert-in-Err-clause-ascending
returns-in_err-insert-in-Err-clause-ascending c = invariant_of-self c

pub returns-in_err-insert-in-Err-clause-ok : goal.returns-in_err-insert-in-Err-clause-ok
returns-in_err-insert-in-Err-clause-ok c = IfOk-from_err c.from_residual.result _ c.from_residual.ensures.0

pub returns-in_err-insert-in-Err-clause-err : goal.returns-in_err-insert-in-Err-clause-err
returns-in_err-insert-in-Err-clause-err c = MatchResult-from_err c.from_residual.result _ _ c.from_residual.ensures.0 (λ _. c.in_err-insert-in-Err.ensures.items ∙ c.self.view_is)

pub returns-in-Ok-clause-ascending : goal.returns-in-Ok-clause-ascending
returns-in-Ok-clause-ascending c = subst (IsStrictlySortedBy agreement_cmp) c.self.view_is c.self.invariant

pub returns-in-Ok-clause-one : goal.returns-in-Ok-clause-one
returns-in-Ok-clause-one c = le-add_right (length c.args.self.now) 1

pub returns-in_ok-insert-in-Err-clause-one : goal.returns-in_ok-insert-in-Err-clause-one
returns-in_ok-insert-in-Err-clause-one c =
    let agreements = c.self.inside.agreements.items in
    let is = rw c.deref.ensures.value at c.in-Err.ensures in
    let one = length-insert agreements c.in-Err.place c.args.agreement is.range in
    let new = ap length c.in_ok-insert-in-Err.ensures.items in
    let old = ap length c.self.view_is in
    omega (arith, one, new, old)

pub returns-in_err-insert-in-Err-clause-one : goal.returns-in_err-insert-in-Err-clause-one
returns-in_err-insert-in-Err-clause-one c =
    let new = ap length c.in_err-insert-in-Err.ensures.items in
    let old = ap length c.self.view_is in
    omega (arith, new, old)
