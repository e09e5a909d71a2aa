use Rattle.std.proofs.Common.{Some, ap, refl, subst, sym}
use Rattle.std.proofs.lemmas.Result.{err_from_is_err_and}
use Rattle.pir_words.specs.Form.{IsReadAs}
use Rattle.pir_words.specs.declared.asked.Asked.TheVariants.{Demo}
use Rattle.pir_words.specs.DemoForm.{demo_of}
use Rattle.pir_words.proofs.Chains.{given_on, in_any_case, not_given, not_read, short_of_memory}
use Rattle.pir_words.proofs.demo_words.read_demo.Goals as goal

pub returns-in_default : goal.returns-in_default
unfolding demo_of
returns-in_default c = not_given _ c.in_default.ensures.value

pub returns-in_default-sizes_at : goal.returns-in_default-sizes_at
unfolding demo_of
returns-in_default-sizes_at c = given_on _ c.in-Some.ensures.value (in_any_case _ (λ database. not_given _ c.in_default-sizes_at.ensures))

pub returns-in_default-block_at : goal.returns-in_default-block_at
unfolding demo_of
returns-in_default-block_at c = given_on _ c.in-Some.ensures.value (in_any_case _ (λ database. given_on _ c.in-Some-sizes_at.ensures (not_given _ c.in_default-block_at.ensures)))

pub returns-in_default-servers_at : goal.returns-in_default-servers_at
unfolding demo_of
returns-in_default-servers_at c = given_on _ c.in-Some.ensures.value (in_any_case _ (λ database. given_on _ c.in-Some-sizes_at.ensures (given_on _ c.in-Some-block_at.ensures (not_given _ c.in_default-servers_at.ensures))))

pub returns-in_default-sharing_at : goal.returns-in_default-sharing_at
unfolding demo_of
returns-in_default-sharing_at c = given_on _ c.in-Some.ensures.value (in_any_case _ (λ database. given_on _ c.in-Some-sizes_at.ensures (given_on _ c.in-Some-block_at.ensures (given_on _ c.in-Some-servers_at.ensures (not_given _ c.in_default-sharing_at.ensures)))))

pub returns-in_err-database : goal.returns-in_err-database
unfolding demo_of
returns-in_err-database c =
    let fault = err_from_is_err_and c.from_residual.result c.from_residual.ensures.1 in
    subst (λ wanted. IsReadAs wanted c.from_residual.result) (sym (given_on _ c.in-Some.ensures.value refl))
    (not_read _ _ c.from_residual.result fault.1 fault.2 c.in_err-database.ensures)

pub returns-in_err-coins : goal.returns-in_err-coins
returns-in_err-coins c =
    let fault = err_from_is_err_and c.from_residual-in_err-coins.result c.from_residual-in_err-coins.ensures.1 in
    short_of_memory _ c.from_residual-in_err-coins.result fault.1 refl fault.2

pub returns : goal.returns
unfolding demo_of
returns c = given_on _ c.in-Some.ensures.value (given_on _ (sym c.in_ok-database.ensures) (given_on _ c.in-Some-sizes_at.ensures (given_on _ c.in-Some-block_at.ensures (given_on _ c.in-Some-servers_at.ensures (given_on _ c.in-Some-sharing_at.ensures (ap (λ coins. Some (Demo c.in-Some.port c.in_ok-database.database c.in-Some-sizes_at.sizes.rows c.in-Some-sizes_at.sizes.width c.in-Some-block_at.block c.in-Some-servers_at.servers c.in-Some-sharing_at.sharing.degree c.in-Some-sharing_at.sharing.agree coins)) (sym c.in_ok-coins.ensures)))))))
