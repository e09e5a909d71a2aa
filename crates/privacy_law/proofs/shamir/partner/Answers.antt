use Rattle.std.proofs.Common.{ap, ◌∙◌, length, get_or, arith}
use Rattle.std.proofs.lemmas.List.{take_at, get_or_default}
use Rattle.std.proofs.lemmas.Result.{IfOk-from_err}
use Rattle.shamir_share.specs.Query.{query}
use Rattle.uni_poly.proofs.Coefficients.{bytes_from_get_or}
use Rattle.privacy_law.specs.Partner.{partner}
use Rattle.privacy_law.proofs.HidingPolynomial.{length-hiding}
use Rattle.privacy_law.proofs.SameQueries.{same_query, partner_back, partner_is}
use Rattle.privacy_law.proofs.shamir.partner.Goals as goal

pub add_to_rows-requires-clause-some : goal.add_to_rows-requires-clause-some
add_to_rows-requires-clause-some c =
    let xs = c.args.coalition.now in
    let long = length-hiding xs (bytes_from_get_or xs (λ k. (c.type_inv.coalition k).fits)) c.requires.nonzero in
    let same = ap length (c.deref.ensures.value ∙ c.in_ok-hiding.ensures) in
    omega (arith, long, same)

pub add_to_rows-requires-clause-few : goal.add_to_rows-requires-clause-few
add_to_rows-requires-clause-few c =
    let xs = c.args.coalition.now in
    let long = length-hiding xs (bytes_from_get_or xs (λ k. (c.type_inv.coalition k).fits)) c.requires.nonzero in
    let same = ap length (c.deref.ensures.value ∙ c.in_ok-hiding.ensures) in
    let bound = c.requires.bound in
    omega (arith, long, same, bound)

pub returns-clause-is : goal.returns-clause-is
returns-clause-is c =
    take_at c.add_to_rows.new.coins _ c.in_ok-changed.changed.len (c.add_to_rows.auto.coins ∙ c.deref_mut.ensures.len)
    ∙ partner_is _ _ _ _ _ _ _ _ c.add_to_rows.ensures (c.deref_mut.ensures.value ∙ c.in_ok-changed.ensures.items) (c.deref.ensures.value ∙ c.in_ok-hiding.ensures)

pub returns-clause-queries : goal.returns-clause-queries
returns-clause-queries c k d l =
    let xs = c.args.coalition.now in
    ap (λ v. query v c.args.t c.args.r c.args.b2 (get_or xs k d)) (returns-clause-is c)
    ∙ same_query c.args.coins.now c.args.t c.args.r xs c.args.b c.args.b2 (get_or xs k d) c.requires.coins c.requires.bound
    (bytes_from_get_or xs (λ k. (c.type_inv.coalition k).fits)) c.requires.nonzero (k, l, get_or_default xs k (get_or xs k d) d l)

pub returns-clause-own_inverse : goal.returns-clause-own_inverse
returns-clause-own_inverse c =
    ap (λ v. partner v c.args.t c.args.coalition.now c.args.b2 c.args.b) (returns-clause-is c)
    ∙ partner_back c.args.coins.now c.args.t c.args.coalition.now c.args.b c.args.b2

pub returns-in_err-hiding-clause-is : goal.returns-in_err-hiding-clause-is
returns-in_err-hiding-clause-is c = IfOk-from_err c.from_residual.result _ c.from_residual.ensures.0

pub returns-in_err-hiding-clause-queries : goal.returns-in_err-hiding-clause-queries
returns-in_err-hiding-clause-queries c = IfOk-from_err c.from_residual.result _ c.from_residual.ensures.0

pub returns-in_err-hiding-clause-length : goal.returns-in_err-hiding-clause-length
returns-in_err-hiding-clause-length c = IfOk-from_err c.from_residual.result _ c.from_residual.ensures.0

pub returns-in_err-hiding-clause-own_inverse : goal.returns-in_err-hiding-clause-own_inverse
returns-in_err-hiding-clause-own_inverse c = IfOk-from_err c.from_residual.result _ c.from_residual.ensures.0

pub returns-in_err-changed-clause-is : goal.returns-in_err-changed-clause-is
returns-in_err-changed-clause-is c = IfOk-from_err c.from_residual-in_err-changed.result _ c.from_residual-in_err-changed.ensures.0

pub returns-in_err-changed-clause-queries : goal.returns-in_err-changed-clause-queries
returns-in_err-changed-clause-queries c = IfOk-from_err c.from_residual-in_err-changed.result _ c.from_residual-in_err-changed.ensures.0

pub returns-in_err-changed-clause-length : goal.returns-in_err-changed-clause-length
returns-in_err-changed-clause-length c = IfOk-from_err c.from_residual-in_err-changed.result _ c.from_residual-in_err-changed.ensures.0

pub returns-in_err-changed-clause-own_inverse : goal.returns-in_err-changed-clause-own_inverse
returns-in_err-changed-clause-own_inverse c = IfOk-from_err c.from_residual-in_err-changed.result _ c.from_residual-in_err-changed.ensures.0
