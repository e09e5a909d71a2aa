use Rattle.std.proofs.Common.{map, Contains, sym, ap, subst, ◌∙◌, inl, inr, ℕ, ◌≤◌, List, Vec, Global}
use Rattle.std.specs.Result.{is_ok}
use Rattle.std.proofs.lemmas.Cmp.{nat_list_cmp_total}
use Rattle.block_decoder.proofs.Ascending.{same_bytes, Contains-map, Contains-insert, map-insert, comparisons_rise, sorted_after}
use Rattle.std.proofs.lemmas.Result.{IfOk-from_err, MatchResult-from_err}
use Rattle.std.specs.List.Sorted.{IsStrictlySortedBy}
use Rattle.std.specs.Cmp.Lexicographic.{slice_cmp}
use Rattle.std.specs.Ordering.{nat_cmp}
use Rattle.block_decoder.proofs.listing.Listing.insert.Goals as goal

pub returns-in-Ok-clause-ok : goal.returns-in-Ok-clause-ok
returns-in-Ok-clause-ok c = λ b. (
  inl,
  λ either. elim either [
    | inl old ↦ old
    | inr new ↦
        let place = rw c.deref-2.ensures.value at c.in-Ok.ensures in
        let old = Contains-map (λ b. b.items) c.args.block.items c.deref.result.now c.in-Ok.field-0 place.range (λ d. same_bytes _ _ (place.place d)) in
        subst (Contains c.args.self.now) (sym new) (subst (λ l. Contains l c.args.block.items) (ap (map (λ b. b.items)) c.deref.ensures.value ∙ c.self.view_is) old)
  ],
)

pub invariant_of-self-in-Err : goal.invariant_of-self-in-Err
invariant_of-self-in-Err c =
    let blocks = c.self.inside.blocks.items in
    let is = rw c.deref-2.ensures.value at c.in-Err.ensures in
    let place = rw c.deref.ensures.value at is.place in
    let gap = place (comparisons_rise nat_list_cmp_total (λ b. b.items) blocks c.args.block.items c.self.invariant) in
    sorted_after nat_list_cmp_total (λ b. b.items) blocks c.insert.new.self.items c.args.block c.in-Err.place
    (is_ok c.insert.result) c.insert.ensures.items c.self.invariant (rw c.deref.ensures.value at is.range) gap.0 gap.1

pub returns-in_ok-insert-in-Err-clause-ascending : goal.returns-in_ok-insert-in-Err-clause-ascending
returns-in_ok-insert-in-Err-clause-ascending c = invariant_of-self-in-Err c

pub returns-in_ok-insert-in-Err-clause-ok : goal.returns-in_ok-insert-in-Err-clause-ok
returns-in_ok-insert-in-Err-clause-ok c = λ b.
    let blocks = c.self.inside.blocks.items in
    let is = ap (map (λ b. b.items)) c.in_ok-insert-in-Err.ensures.items ∙ map-insert (λ b. b.items) blocks c.in-Err.place c.args.block in
    rw is (rw (← c.self.view_is) (Contains-insert (map (λ b. b.items) blocks) c.in-Err.place c.args.block.items b))

pub insert-requires : goal.insert-requires
insert-requires c = subst (λ (n : ℕ). c.in-Err.place ≤ n) c.deref.ensures.len c.in-Err.ensures.range

pub invariant_of-self : goal.invariant_of-self
invariant_of-self c = subst (λ (blocks : List (Vec ℕ Global)). IsStrictlySortedBy (slice_cmp nat_cmp) (map (λ b. b.items) blocks)) (sym c.in_err-insert-in-Err.ensures.items) c.self.invariant

pub returns-in_err-insert-in-Err-clause-ascending : goal.returns-in_err-insert-in-Err-clause-ascending
returns-in_err-insert-in-Err-clause-ascending c = invariant_of-self c

pub returns-in_err-insert-in-Err-clause-ok : goal.returns-in_err-insert-in-Err-clause-ok
returns-in_err-insert-in-Err-clause-ok c = IfOk-from_err c.from_residual.result _ c.from_residual.ensures.0

pub returns-in_err-insert-in-Err-clause-err : goal.returns-in_err-insert-in-Err-clause-err
returns-in_err-insert-in-Err-clause-err c =
    MatchResult-from_err c.from_residual.result _ _ c.from_residual.ensures.0
    (λ _. ap (map (λ (b : Vec ℕ Global). b.items)) c.in_err-insert-in-Err.ensures.items ∙ c.self.view_is)

pub returns-in-Ok-clause-ascending : goal.returns-in-Ok-clause-ascending
returns-in-Ok-clause-ascending c = subst (IsStrictlySortedBy (slice_cmp nat_cmp)) c.self.view_is c.self.invariant
