use Rattle.std.proofs.Common.{Some, ap, refl, sym, subst}
use Rattle.std.proofs.lemmas.Result.{err_from_is_err_and}
use Rattle.pir_words.specs.Form.{IsReadAs}
use Rattle.pir_words.specs.SplitForm.{split_of}
use Rattle.pir_words.specs.declared.asked.Asked.TheVariants.{Split}
use Rattle.pir_words.proofs.Chains.{given_on, not_given, not_read, short_of_memory}
use Rattle.pir_words.proofs.split_words.read_split.Goals as goal

pub returns-in_default : goal.returns-in_default
unfolding split_of
returns-in_default c = not_given _ c.in_default.ensures

pub returns-in_default-servers_at : goal.returns-in_default-servers_at
unfolding split_of
returns-in_default-servers_at c = given_on _ c.in-Some.ensures (not_given _ c.in_default-servers_at.ensures)

pub returns-in_default-tau_among : goal.returns-in_default-tau_among
unfolding split_of
returns-in_default-tau_among c = given_on _ c.in-Some.ensures (given_on _ c.in-Some-servers_at.ensures (not_given _ c.in_default-tau_among.ensures))

pub returns-in_err-database : goal.returns-in_err-database
unfolding split_of
returns-in_err-database c =
    let fault = err_from_is_err_and c.from_residual.result c.from_residual.ensures.1 in
    subst (λ wanted. IsReadAs wanted c.from_residual.result) (sym (given_on _ c.in-Some.ensures (given_on _ c.in-Some-servers_at.ensures (given_on _ c.in-Some-tau_among.ensures refl))))
    (not_read _ _ c.from_residual.result fault.1 fault.2 c.in_err-database.ensures)

pub returns-in_err-into : goal.returns-in_err-into
unfolding split_of
returns-in_err-into c =
    let fault = err_from_is_err_and c.from_residual-in_err-into.result c.from_residual-in_err-into.ensures.1 in
    subst (λ wanted. IsReadAs wanted c.from_residual-in_err-into.result) (sym (given_on _ c.in-Some.ensures (given_on _ c.in-Some-servers_at.ensures (given_on _ c.in-Some-tau_among.ensures (given_on _ (sym c.in_ok-database.ensures) refl)))))
    (not_read _ _ c.from_residual-in_err-into.result fault.1 fault.2 c.in_err-into.ensures)

pub returns-in_err-coins : goal.returns-in_err-coins
returns-in_err-coins c =
    let fault = err_from_is_err_and c.from_residual-in_err-coins.result c.from_residual-in_err-coins.ensures.1 in
    short_of_memory _ c.from_residual-in_err-coins.result fault.1 refl fault.2

pub returns : goal.returns
unfolding split_of
returns c = given_on _ c.in-Some.ensures (given_on _ c.in-Some-servers_at.ensures (given_on _ c.in-Some-tau_among.ensures (given_on _ (sym c.in_ok-database.ensures) (given_on _ (sym c.in_ok-into.ensures) (ap (λ coins. Some (Split c.in_ok-database.database c.in-Some.width c.in-Some-servers_at.servers c.in-Some-tau_among.tau c.in_ok-into.into coins)) (sym c.in_ok-coins.ensures))))))
