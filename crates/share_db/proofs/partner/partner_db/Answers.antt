use Rattle.std.proofs.Common.{ap, ◌∙◌, get_or}
use Rattle.std.proofs.lemmas.List.{take_at, get_or_default}
use Rattle.uni_poly.proofs.Coefficients.{bytes_from_get_or}
use Rattle.share_bytes.specs.Share.{share}
use Rattle.share_db.specs.Partner.{partner_db}
use Rattle.share_db.proofs.SameShares.{same_share, partner_db_back, partner_db_is}
use Rattle.share_db.proofs.partner.partner_db.Goals as goal

pub returns-clause-is : goal.returns-clause-is
returns-clause-is c =
    take_at c.add_differences.new.coins _ c.in_ok-changed.changed.len (c.add_differences.auto.coins ∙ c.deref_mut.ensures.len)
    ∙ partner_db_is _ _ _ _ _ _ _ _ c.add_differences.auto.coins c.add_differences.ensures (c.deref_mut.ensures.value ∙ c.in_ok-changed.ensures.items) (c.deref.ensures.value ∙ c.in_ok-hiding.ensures)

pub returns-clause-shares : goal.returns-clause-shares
returns-clause-shares c k d l =
    let xs = c.args.coalition.now in
    ap (λ v. share c.args.to.now v c.args.tau (get_or xs k d)) (returns-clause-is c)
    ∙ same_share c.args.coins.now c.args.from.now c.args.to.now c.args.tau xs (get_or xs k d) c.requires.coins c.requires.shape c.requires.bound
    (bytes_from_get_or xs (λ k. (c.type_inv.coalition k).fits)) c.requires.nonzero (k, l, get_or_default xs k (get_or xs k d) d l)

pub returns-clause-own_inverse : goal.returns-clause-own_inverse
returns-clause-own_inverse c =
    ap (λ v. partner_db v c.args.to.now c.args.from.now c.args.tau c.args.coalition.now) (returns-clause-is c)
    ∙ partner_db_back c.args.coins.now c.args.from.now c.args.to.now c.args.tau c.args.coalition.now
