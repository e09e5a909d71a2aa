use Rattle.std.proofs.Common.{◌≡◌, ◌∙◌, ◌*◌, ap, length, sym, arith}
use Rattle.shamir_share.specs.Query.{masks}
use Rattle.shamir_share.proofs.Rows.{masks_of_coins}
use Rattle.shamir_share.proofs.masks.masks_into.Goals as goal

pub returns-then-t-eq1 : goal.returns-then-t-eq1
returns-then-t-eq1 c =
    let coins = c.args.coins.now in
    let r = length c.args.out.now in
    let one : c.args.t ≡ 1 = c.if-t-eq1.true in
    c.times_each.ensures ∙ masks_of_coins coins r c.args.products.now (omega (arith, c.requires, ap (λ t. r * t) one)) (λ i. (c.type_inv.coins i).fits)
    ∙ ap (λ t. masks coins t r c.args.products.now) (sym one)
