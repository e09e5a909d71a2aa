use Rattle.std.proofs.Common.{◌∙◌, ap, ap₂, set, get_or}
use Rattle.gf256.specs.Field.{◌⊕◌}
use Rattle.shamir_share.specs.Query.{masks}
use Rattle.shamir_share.proofs.Queries.{query_from_masks}
use Rattle.shamir_share.proofs.query_into.Goals as goal

pub returns : goal.returns
unfolding ◌⊕◌
returns c =
    let same = c.masks_into.ensures ∙ ap₂ (λ n a. masks c.args.coins.now c.args.t n a) c.requires.room c.of-products.ensures in
    ap (λ xs. set xs c.args.block (get_or xs c.args.block 0 ⊕ 1)) same ∙ query_from_masks c.args.coins.now c.args.t c.args.r c.args.block c.args.index c.requires.block
