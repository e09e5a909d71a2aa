use Rattle.std.proofs.Common.{get_or}
use Rattle.std.proofs.lemmas.List.{get_or_default}
use Rattle.uni_poly.proofs.Coefficients.{bytes_from_get_or}
use Rattle.share_db.proofs.SameShares.{same_share, IsBijection-partner_db}
use Rattle.share_db.proofs.laws.coalition_reads_no_database.Goals as goal

pub returns-clause-bijection : goal.returns-clause-bijection
returns-clause-bijection c = IsBijection-partner_db _ c.args.from.now c.args.to.now c.args.tau c.args.coalition.now

pub returns-clause-same_shares : goal.returns-clause-same_shares
returns-clause-same_shares c coins h k d l =
    let xs = c.args.coalition.now in
    same_share coins c.args.from.now c.args.to.now c.args.tau xs (get_or xs k d) h.size c.requires.shape c.requires.bound
    (bytes_from_get_or xs (λ k. (c.type_inv.coalition k).fits)) c.requires.nonzero (k, l, get_or_default xs k (get_or xs k d) d l)
