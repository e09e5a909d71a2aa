use Rattle.std.proofs.Common.{[], ◌∷◌, ◌++◌, take, sym, ap, subst, ◌∙◌, arith}
use Rattle.std.proofs.lemmas.List.{take_all, take_more}
use Rattle.block_decoder.specs.Report.{HasBlocks}
use Rattle.block_decoder.proofs.Reported.{blocks-more}
use Rattle.std.proofs.lemmas.Result.{IfOk-from_err}
use Rattle.block_decoder.proofs.agreements.Report.to_listing.Goals as goal

pub loop-agreement-preserved : goal.loop-agreement-preserved
loop-agreement-preserved c =
    let agreements = c.deref-agreement-items.result.now in
    let i = c.loop-agreement.agreement-index in
    let a = c.agreement-item.result in
    let grown = take_more agreements i a c.loop-agreement-test.true ∙ ap (λ x. take i agreements ++ x ∷ []) (sym c.agreement-item.is) in
    record {
      ascending = c.insert.ensures.ascending;
      blocks = subst (HasBlocks c.insert.new.self) (sym grown)
          (blocks-more c.loop-agreement.listing c.insert.new.self (take i agreements) a c.in_ok-from_slice.field-0.items
          (c.in_ok-from_slice.ensures.items ∙ c.block.ensures) c.loop-agreement.invariant.blocks c.in_ok-insert.ensures.ok);
    }

pub returns-clause-blocks : goal.returns-clause-blocks
returns-clause-blocks c =
    let agreements = c.deref-agreement-items.result.now in
    let whole = take_all c.loop-agreement.agreement-index agreements (omega (arith, c.loop-agreement-test.false)) in
    subst (HasBlocks c.loop-agreement.listing) (whole ∙ c.deref-agreement-items.ensures.value ∙ c.self.view_is) c.loop-agreement.invariant.blocks

pub returns-in_err-from_slice-clause-ascending : goal.returns-in_err-from_slice-clause-ascending
returns-in_err-from_slice-clause-ascending c = IfOk-from_err c.from_residual.result _ c.from_residual.ensures.0

pub returns-in_err-from_slice-clause-blocks : goal.returns-in_err-from_slice-clause-blocks
returns-in_err-from_slice-clause-blocks c = IfOk-from_err c.from_residual.result _ c.from_residual.ensures.0

pub returns-in_err-insert-clause-ascending : goal.returns-in_err-insert-clause-ascending
returns-in_err-insert-clause-ascending c = IfOk-from_err c.from_residual-in_err-insert.result _ c.from_residual-in_err-insert.ensures.0

pub returns-in_err-insert-clause-blocks : goal.returns-in_err-insert-clause-blocks
returns-in_err-insert-clause-blocks c = IfOk-from_err c.from_residual-in_err-insert.result _ c.from_residual-in_err-insert.ensures.0

pub returns-clause-ascending : goal.returns-clause-ascending
returns-clause-ascending c = c.loop-agreement.invariant.ascending
