use Rattle.std.proofs.Common.{Some, ap, refl, sym, subst}
use Rattle.std.proofs.lemmas.Result.{err_from_is_err_and}
use Rattle.pir_words.specs.Form.{IsReadAs}
use Rattle.pir_words.specs.ServeForm.{serve_of}
use Rattle.pir_words.specs.declared.asked.Asked.TheVariants.{Serve}
use Rattle.pir_words.proofs.Chains.{given_on, not_given, not_read}
use Rattle.pir_words.proofs.serve_words.read_serve.Goals as goal

pub returns-in_default : goal.returns-in_default
unfolding serve_of
returns-in_default c = not_given _ c.in_default.ensures

pub returns-in_default-conns_at : goal.returns-in_default-conns_at
unfolding serve_of
returns-in_default-conns_at c = given_on _ c.in-Some.ensures (not_given _ c.in_default-conns_at.ensures)

pub returns-in_default-scheme_at : goal.returns-in_default-scheme_at
unfolding serve_of
returns-in_default-scheme_at c = given_on _ c.in-Some.ensures (given_on _ c.in-Some-conns_at.ensures (not_given _ c.in_default-scheme_at.ensures))

pub returns-in_default-workers_at : goal.returns-in_default-workers_at
unfolding serve_of
returns-in_default-workers_at c = given_on _ c.in-Some.ensures (given_on _ c.in-Some-conns_at.ensures (given_on _ c.in-Some-scheme_at.ensures (not_given _ c.in_default-workers_at.ensures)))

pub returns-in_err-database : goal.returns-in_err-database
unfolding serve_of
returns-in_err-database c =
    let fault = err_from_is_err_and c.from_residual.result c.from_residual.ensures.1 in
    subst (λ wanted. IsReadAs wanted c.from_residual.result) (sym (given_on _ c.in-Some.ensures (given_on _ c.in-Some-conns_at.ensures (given_on _ c.in-Some-scheme_at.ensures (given_on _ c.in-Some-workers_at.ensures refl)))))
    (not_read _ _ c.from_residual.result fault.1 fault.2 c.in_err-database.ensures)

pub returns-in_err-listen : goal.returns-in_err-listen
unfolding serve_of
returns-in_err-listen c =
    let fault = err_from_is_err_and c.from_residual-in_err-listen.result c.from_residual-in_err-listen.ensures.1 in
    subst (λ wanted. IsReadAs wanted c.from_residual-in_err-listen.result) (sym (given_on _ c.in-Some.ensures (given_on _ c.in-Some-conns_at.ensures (given_on _ c.in-Some-scheme_at.ensures (given_on _ c.in-Some-workers_at.ensures (given_on _ (sym c.in_ok-database.ensures) refl))))))
    (not_read _ _ c.from_residual-in_err-listen.result fault.1 fault.2 c.in_err-listen.ensures)

pub returns : goal.returns
unfolding serve_of
returns c = given_on _ c.in-Some.ensures (given_on _ c.in-Some-conns_at.ensures (given_on _ c.in-Some-scheme_at.ensures (given_on _ c.in-Some-workers_at.ensures (given_on _ (sym c.in_ok-database.ensures) (given_on _ (sym c.in_ok-listen.ensures) (ap (λ scheme. Some (Serve scheme c.in_ok-database.database c.in-Some.width c.in-Some-conns_at.conns c.in_ok-listen.listen c.in-Some-workers_at.workers)) (sym c.number.ensures.is)))))))
