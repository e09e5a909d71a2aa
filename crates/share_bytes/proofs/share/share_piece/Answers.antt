use Rattle.std.proofs.Common.{get_or, ap, ◌∙◌}
use Rattle.gf256.specs.Field.{◌⊕◌}
use Rattle.shamir_share.specs.Query.{masks}
use Rattle.share_bytes.proofs.Shares.{share_from_masks}
use Rattle.share_bytes.proofs.share.share_piece.Goals as goal

pub returns : goal.returns
returns c =
    let bytes = c.args.bytes.now in
    let tau = c.args.tau in
    let same = c.masks_into.ensures ∙ ap (λ n. masks c.args.coins.now tau n c.args.products.now) c.requires.room in
    share_from_masks bytes c.args.coins.now c.add_row.new.acc tau c.args.products.now (λ i. (c.type_inv.bytes i).fits)
    (c.add_row.auto.acc ∙ c.masks_into.auto.out ∙ c.requires.room)
    (λ i l. c.add_row.ensures i ∙ ap (λ xs. get_or xs i 0 ⊕ get_or bytes i 0) same)
