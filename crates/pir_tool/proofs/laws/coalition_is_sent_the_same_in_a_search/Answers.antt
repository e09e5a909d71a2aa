use Rattle.uni_poly.proofs.Coefficients.{bytes_from_get_or}
use Rattle.pir_tool.proofs.SameSearches.{search_looks_the_same}
use Rattle.pir_tool.proofs.laws.coalition_is_sent_the_same_in_a_search.Goals as goal

pub returns : goal.returns
returns c =
    search_looks_the_same c.args.plan.now c.requires.scheme c.args.coalition.now
    (bytes_from_get_or c.args.coalition.now (λ i. (c.type_inv.coalition i).fits)) c.requires.nonzero c.requires.bound
