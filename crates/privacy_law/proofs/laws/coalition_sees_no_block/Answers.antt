use Rattle.std.proofs.Common.{get_or}
use Rattle.std.proofs.lemmas.List.{get_or_default}
use Rattle.uni_poly.proofs.Coefficients.{bytes_from_get_or}
use Rattle.privacy_law.proofs.SameQueries.{same_query, IsBijection-partner}
use Rattle.privacy_law.proofs.laws.coalition_sees_no_block.Goals as goal

pub returns-clause-bijection : goal.returns-clause-bijection
returns-clause-bijection c =
    let xs = c.args.coalition.now in
    IsBijection-partner _ c.args.t xs c.args.b c.args.b2 (bytes_from_get_or xs (λ k. (c.type_inv.coalition k).fits)) c.requires.nonzero

pub returns-clause-same_queries : goal.returns-clause-same_queries
returns-clause-same_queries c coins h k d l =
    let xs = c.args.coalition.now in
    same_query coins c.args.t c.args.r xs c.args.b c.args.b2 (get_or xs k d) h.size c.requires.bound
    (bytes_from_get_or xs (λ k. (c.type_inv.coalition k).fits)) c.requires.nonzero (k, l, get_or_default xs k (get_or xs k d) d l)
