use Rattle.std.proofs.Common.{Some, ap, refl, sym, subst}
use Rattle.std.proofs.lemmas.Result.{err_from_is_err_and}
use Rattle.pir_words.specs.Form.{IsReadAs}
use Rattle.pir_words.specs.FrontForm.{front_of}
use Rattle.pir_words.specs.declared.asked.Asked.TheVariants.{Front}
use Rattle.pir_words.proofs.Chains.{given_on, not_given, not_read, short_of_memory}
use Rattle.pir_words.proofs.front_words.read_front.Goals as goal

pub returns-in_default : goal.returns-in_default
unfolding front_of
returns-in_default c = not_given _ c.in_default.ensures

pub returns-in_default-limited_at : goal.returns-in_default-limited_at
unfolding front_of
returns-in_default-limited_at c = given_on _ c.in-Some.ensures (not_given _ c.in_default-limited_at.ensures.value)

pub returns-in_default-conns_at : goal.returns-in_default-conns_at
unfolding front_of
returns-in_default-conns_at c = given_on _ c.in-Some.ensures (given_on _ c.in-Some-limited_at.ensures.value (not_given _ c.in_default-conns_at.ensures))

pub returns-in_default-shard_addresses_at : goal.returns-in_default-shard_addresses_at
unfolding front_of
returns-in_default-shard_addresses_at c = given_on _ c.in-Some.ensures (given_on _ c.in-Some-limited_at.ensures.value (given_on _ c.in-Some-conns_at.ensures (not_given _ c.in_default-shard_addresses_at.ensures)))

pub returns-in_err-listen : goal.returns-in_err-listen
unfolding front_of
returns-in_err-listen c =
    let fault = err_from_is_err_and c.from_residual.result c.from_residual.ensures.1 in
    subst (λ wanted. IsReadAs wanted c.from_residual.result) (sym (given_on _ c.in-Some.ensures (given_on _ c.in-Some-limited_at.ensures.value (given_on _ c.in-Some-conns_at.ensures (given_on _ c.in-Some-shard_addresses_at.ensures refl)))))
    (not_read _ _ c.from_residual.result fault.1 fault.2 c.in_err-listen.ensures)

pub returns-in_err-addresses : goal.returns-in_err-addresses
returns-in_err-addresses c =
    let fault = err_from_is_err_and c.from_residual-in_err-addresses.result c.from_residual-in_err-addresses.ensures.1 in
    short_of_memory _ c.from_residual-in_err-addresses.result fault.1 refl fault.2

pub returns : goal.returns
unfolding front_of
returns c = given_on _ c.in-Some.ensures (given_on _ c.in-Some-limited_at.ensures.value (given_on _ c.in-Some-conns_at.ensures (given_on _ c.in-Some-shard_addresses_at.ensures (given_on _ (sym c.in_ok-listen.ensures) (ap (λ addresses. Some (Front c.in-Some.sizes.rows c.in-Some.sizes.width c.in-Some-limited_at.shard c.in-Some-conns_at.conns c.in_ok-listen.listen addresses)) (sym c.in_ok-addresses.ensures))))))
