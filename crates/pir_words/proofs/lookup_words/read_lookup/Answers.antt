use Rattle.std.proofs.Common.{◌∙◌, Some, ap, ap₂, refl, sym, subst}
use Rattle.std.proofs.lemmas.List.{length-map}
use Rattle.std.proofs.lemmas.Result.{err_from_is_err_and}
use Rattle.pir_words.specs.Numbers.{given}
use Rattle.pir_words.specs.Ranges.{sharing_in}
use Rattle.pir_words.specs.Form.{IsReadAs}
use Rattle.pir_words.specs.LookUpForm.{lookup_of}
use Rattle.pir_words.specs.declared.asked.Asked.TheVariants.{Lookup}
use Rattle.pir_words.proofs.Chains.{given_on, in_any_case, not_given, not_read, short_of_memory}
use Rattle.pir_words.proofs.lookup_words.read_lookup.Goals as goal

pub returns-in_default : goal.returns-in_default
unfolding lookup_of
returns-in_default c = not_given _ c.in_default.ensures

pub returns-in_err-key : goal.returns-in_err-key
unfolding lookup_of
returns-in_err-key c =
    let fault = err_from_is_err_and c.from_residual.result c.from_residual.ensures.1 in
    subst (λ wanted. IsReadAs wanted c.from_residual.result) (sym (given_on _ c.in-Some.ensures refl))
    (not_read _ _ c.from_residual.result fault.1 fault.2 c.in_err-key.ensures)

pub returns-in_default-addresses_at : goal.returns-in_default-addresses_at
unfolding lookup_of
returns-in_default-addresses_at c = given_on _ c.in-Some.ensures (in_any_case _ (λ key. not_given _ c.in_default-addresses_at.ensures.value))

pub returns-in_default-sharing_at : goal.returns-in_default-sharing_at
unfolding lookup_of
returns-in_default-sharing_at c = given_on _ c.in-Some.ensures (in_any_case _ (λ key. given_on _ c.in-Some-addresses_at.ensures.value (not_given _ (c.in_default-sharing_at.ensures ∙ ap (λ n. sharing_in n (given c.args.matches.now)) (sym (length-map c.in-Some-addresses_at.addresses.now (λ v. v.now)))))))

pub returns-in_err-coins : goal.returns-in_err-coins
returns-in_err-coins c =
    let fault = err_from_is_err_and c.from_residual-in_err-coins.result c.from_residual-in_err-coins.ensures.1 in
    short_of_memory _ c.from_residual-in_err-coins.result fault.1 refl fault.2

pub returns-in_err-addresses : goal.returns-in_err-addresses
returns-in_err-addresses c =
    let fault = err_from_is_err_and c.from_residual-in_err-addresses.result c.from_residual-in_err-addresses.ensures.1 in
    short_of_memory _ c.from_residual-in_err-addresses.result fault.1 refl fault.2

pub returns : goal.returns
unfolding lookup_of
returns c = given_on _ c.in-Some.ensures (given_on _ (sym c.in_ok-key.ensures) (given_on _ c.in-Some-addresses_at.ensures.value (given_on _ (c.in-Some-sharing_at.ensures ∙ ap (λ n. sharing_in n (given c.args.matches.now)) (sym (length-map c.in-Some-addresses_at.addresses.now (λ v. v.now)))) (ap₂ (λ coins addresses. Some (Lookup c.in-Some.sizes.rows c.in-Some.sizes.width c.in_ok-key.key c.in-Some-sharing_at.sharing.degree c.in-Some-sharing_at.sharing.agree coins addresses))
    (sym c.in_ok-coins.ensures) (sym c.in_ok-addresses.ensures)))))
