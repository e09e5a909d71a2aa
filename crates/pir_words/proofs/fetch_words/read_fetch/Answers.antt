use Rattle.std.proofs.Common.{◌≡◌, ◌∙◌, ℕ, Bool, List, Option, Some, ap, refl, sym, subst}
use Rattle.std.proofs.lemmas.List.{length-map}
use Rattle.std.proofs.lemmas.Result.{err_from_is_err_and}
use Rattle.clap.specs.Words.{Text}
use Rattle.pir_words.specs.Numbers.{given}
use Rattle.pir_words.specs.declared.asked.Asked.TheVariants.{Fetch}
use Rattle.pir_words.specs.Form.{IsReadAs}
use Rattle.pir_words.specs.FetchForm.{fetch_of, fetch_sharing_in}
use Rattle.pir_words.proofs.Chains.{given_on, in_any_case, not_given, not_read, short_of_memory}
use Rattle.pir_words.proofs.fetch_words.read_fetch.Goals as goal

-- what is read again with values that are the same
fetched : {scheme number rows width degree tau agree : ℕ} {blocks : List ℕ} {coins new_coins : Text} {keep new_keep : Option Text} {report new_report : Bool} {addresses new_addresses : List Text}
    → scheme ≡ number → coins ≡ new_coins → keep ≡ new_keep → report ≡ new_report → addresses ≡ new_addresses
    → Some (Fetch scheme rows width blocks degree tau agree coins keep report addresses) ≡ Some (Fetch number rows width blocks degree tau agree new_coins new_keep new_report new_addresses)
fetched {rows = rows} {width = width} {degree = degree} {tau = tau} {agree = agree} {blocks = blocks} e f g h k = λ i. Some (Fetch (e i) rows width blocks degree tau agree (f i) (g i) (h i) (k i))

pub returns-in_default : goal.returns-in_default
unfolding fetch_of
returns-in_default c = not_given _ c.in_default.ensures

pub returns-in_default-scheme_at : goal.returns-in_default-scheme_at
unfolding fetch_of
returns-in_default-scheme_at c = given_on _ c.in-Some.ensures (in_any_case _ (λ blocks. not_given _ c.in_default-scheme_at.ensures))

pub returns-in_default-addresses_at : goal.returns-in_default-addresses_at
unfolding fetch_of
returns-in_default-addresses_at c = given_on _ c.in-Some.ensures (in_any_case _ (λ blocks. given_on _ c.in-Some-scheme_at.ensures (not_given _ c.in_default-addresses_at.ensures.value)))

pub returns-in_default-fetch_sharing_at : goal.returns-in_default-fetch_sharing_at
unfolding fetch_of
returns-in_default-fetch_sharing_at c = given_on _ c.in-Some.ensures (in_any_case _ (λ blocks. given_on _ c.in-Some-scheme_at.ensures (given_on _ c.in-Some-addresses_at.ensures.value (not_given _ (c.in_default-fetch_sharing_at.ensures ∙ ap (λ n. fetch_sharing_in c.in-Some-scheme_at.scheme n (given c.args.matches.now)) (sym (length-map c.in-Some-addresses_at.addresses.now (λ v. v.now))))))))

pub returns-in_default-tau_at : goal.returns-in_default-tau_at
unfolding fetch_of
returns-in_default-tau_at c = given_on _ c.in-Some.ensures (in_any_case _ (λ blocks. given_on _ c.in-Some-scheme_at.ensures (given_on _ c.in-Some-addresses_at.ensures.value (given_on _ (c.in-Some-fetch_sharing_at.ensures ∙ ap (λ n. fetch_sharing_in c.in-Some-scheme_at.scheme n (given c.args.matches.now)) (sym (length-map c.in-Some-addresses_at.addresses.now (λ v. v.now)))) (not_given _ c.in_default-tau_at.ensures)))))

pub returns-in_err-blocks : goal.returns-in_err-blocks
unfolding fetch_of
returns-in_err-blocks c =
    let fault = err_from_is_err_and c.from_residual.result c.from_residual.ensures.1 in
    subst (λ wanted. IsReadAs wanted c.from_residual.result) (sym (given_on _ c.in-Some.ensures refl))
    (not_read _ _ c.from_residual.result fault.1 fault.2 c.in_err-blocks.ensures)

pub returns-in_err-coins : goal.returns-in_err-coins
returns-in_err-coins c =
    let fault = err_from_is_err_and c.from_residual-in_err-coins.result c.from_residual-in_err-coins.ensures.1 in
    short_of_memory _ c.from_residual-in_err-coins.result fault.1 refl fault.2

pub returns-in_err-keep : goal.returns-in_err-keep
returns-in_err-keep c =
    let fault = err_from_is_err_and c.from_residual-in_err-keep.result c.from_residual-in_err-keep.ensures.1 in
    short_of_memory _ c.from_residual-in_err-keep.result fault.1 refl fault.2

pub returns-in_err-addresses : goal.returns-in_err-addresses
returns-in_err-addresses c =
    let fault = err_from_is_err_and c.from_residual-in_err-addresses.result c.from_residual-in_err-addresses.ensures.1 in
    short_of_memory _ c.from_residual-in_err-addresses.result fault.1 refl fault.2

pub returns : goal.returns
unfolding fetch_of
returns c = given_on _ c.in-Some.ensures (given_on _ (sym c.in_ok-blocks.ensures) (given_on _ c.in-Some-scheme_at.ensures (given_on _ c.in-Some-addresses_at.ensures.value (given_on _ (c.in-Some-fetch_sharing_at.ensures ∙ ap (λ n. fetch_sharing_in c.in-Some-scheme_at.scheme n (given c.args.matches.now)) (sym (length-map c.in-Some-addresses_at.addresses.now (λ v. v.now)))) (given_on _ c.in-Some-tau_at.ensures (fetched (sym c.number.ensures.is) (sym c.in_ok-coins.ensures) (sym c.text_at.ensures ∙ sym c.in_ok-keep.ensures)
    (sym c.flag_at.ensures) (sym c.in_ok-addresses.ensures)))))))
