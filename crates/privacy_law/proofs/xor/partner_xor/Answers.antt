use Rattle.std.proofs.Common.{ap, ◌∙◌}
use Rattle.std.proofs.lemmas.List.{take_at}
use Rattle.std.proofs.lemmas.Result.{IfOk-from_err}
use Rattle.chor_xor.specs.Bitmap.{bitmap}
use Rattle.privacy_law.specs.Partner.{partner_xor}
use Rattle.privacy_law.proofs.SameBitmaps.{same_bitmap, xor_back}
use Rattle.privacy_law.proofs.xor.partner_xor.Goals as goal

pub returns-clause-is : goal.returns-clause-is
returns-clause-is c =
    take_at c.exchange.new.coins _ c.in_ok-changed.changed.len (c.exchange.auto.coins ∙ c.deref_mut.ensures.len)
    ∙ c.exchange.ensures
    ∙ ap (λ coins. partner_xor coins c.args.n c.args.r c.args.left_out c.args.b c.args.b2) (c.deref_mut.ensures.value ∙ c.in_ok-changed.ensures.items)

pub returns-clause-bitmaps : goal.returns-clause-bitmaps
returns-clause-bitmaps c index first last ne =
    ap (λ coins. bitmap coins c.args.n c.args.r c.args.b2 index) (returns-clause-is c)
    ∙ same_bitmap c.args.coins.now c.args.n c.args.r c.args.left_out c.args.b c.args.b2 index c.requires.coins c.requires.block c.requires.other
    c.requires.first c.requires.last first last ne

pub returns-clause-own_inverse : goal.returns-clause-own_inverse
returns-clause-own_inverse c =
    ap (λ coins. partner_xor coins c.args.n c.args.r c.args.left_out c.args.b2 c.args.b) (returns-clause-is c)
    ∙ xor_back c.args.coins.now c.args.n c.args.r c.args.left_out c.args.b c.args.b2

pub returns-in_err-changed-clause-is : goal.returns-in_err-changed-clause-is
returns-in_err-changed-clause-is c = IfOk-from_err c.from_residual.result _ c.from_residual.ensures.0

pub returns-in_err-changed-clause-bitmaps : goal.returns-in_err-changed-clause-bitmaps
returns-in_err-changed-clause-bitmaps c = IfOk-from_err c.from_residual.result _ c.from_residual.ensures.0

pub returns-in_err-changed-clause-length : goal.returns-in_err-changed-clause-length
returns-in_err-changed-clause-length c = IfOk-from_err c.from_residual.result _ c.from_residual.ensures.0

pub returns-in_err-changed-clause-own_inverse : goal.returns-in_err-changed-clause-own_inverse
returns-in_err-changed-clause-own_inverse c = IfOk-from_err c.from_residual.result _ c.from_residual.ensures.0
