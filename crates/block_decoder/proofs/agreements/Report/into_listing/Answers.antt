use Rattle.std.proofs.Common.{◌≡◌, List, [], ◌∷◌, ◌++◌, sym, ap, subst, ◌∙◌, arith, append_assoc, append-nil}
use Rattle.block_decoder.specs.Report.{Agreement, HasBlocks}
use Rattle.block_decoder.proofs.HeavyVectors.{empty_list}
use Rattle.block_decoder.proofs.Reported.{blocks-more}
use Rattle.block_decoder.proofs.agreements.Report.into_listing.Goals as goal

pub loop-agreement-preserved : goal.loop-agreement-preserved
loop-agreement-preserved c =
    let before = c.loop-agreement.yielded in
    let a = c.in-Some.agreement in
    record {
      ascending = c.insert.ensures.ascending;
      blocks = blocks-more c.loop-agreement.listing c.insert.new.self before a c.into_block.result.items c.into_block.ensures c.loop-agreement.invariant.blocks c.in_ok-insert.ensures.ok;
      whole = append_assoc before (a ∷ []) c.next.new.self.rest.items ∙ ap (λ (xs : List Agreement). before ++ xs) (sym c.in-Some.ensures.steps.0) ∙ c.loop-agreement.invariant.whole;
    }

pub returns-clause-blocks : goal.returns-clause-blocks
returns-clause-blocks c =
    let before = c.loop-agreement.yielded in
    let rest = c.loop-agreement.agreement-iterator.rest in
    let none : rest.items ≡ [] = empty_list rest.items (let size = rest.ok.0 in let end = c.in-None.ensures.steps.0 in omega (arith, size, end)) in
    let whole = sym (append-nil before) ∙ ap (λ (xs : List Agreement). before ++ xs) (sym none) ∙ c.loop-agreement.invariant.whole in
    let given : c.into_iter-agreement-iterator.result.rest.items ≡ c.into_agreements-agreement-items.result.items = c.into_iter-agreement-iterator.ensures.into_iter_gives.0 in
    subst (HasBlocks c.loop-agreement.listing) (whole ∙ given ∙ c.into_agreements-agreement-items.ensures) c.loop-agreement.invariant.blocks
