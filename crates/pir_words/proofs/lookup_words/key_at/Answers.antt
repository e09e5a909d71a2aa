use Rattle.std.proofs.Common.{refl, sym, subst}
use Rattle.std.specs.Prelude.{Err}
use Rattle.std.proofs.lemmas.Result.{err_from_is_err_and}
use Rattle.pir_words.specs.LookUpForm.{key_in, key_named}
use Rattle.pir_words.specs.Form.{IsReadAs}
use Rattle.pir_words.specs.declared.asked.WordsFault.{WordsFault}
use Rattle.pir_words.proofs.Chains.{given_on}
use Rattle.pir_words.proofs.Keys.{key_spelled, key_unread}
use Rattle.pir_words.proofs.lookup_words.key_at.Goals as goal

pub returns-in_ok-read_key-in-Some : goal.returns-in_ok-read_key-in-Some
unfolding key_in
returns-in_ok-read_key-in-Some c = given_on _ c.in-Some.ensures (key_spelled c.args.width c.in-Some.text.now _ c.in_ok-read_key-in-Some.ensures.0 c.in_ok-read_key-in-Some.ensures.1 c.in_ok-read_key-in-Some.ensures.2)

pub returns-in_err-read_key-in-Some : goal.returns-in_err-read_key-in-Some
unfolding key_in
returns-in_err-read_key-in-Some c =
    let fault = err_from_is_err_and c.from_residual.result c.from_residual.ensures.1 in
    rw fault.1 (subst (λ wanted. IsReadAs wanted (Err fault.0)) (sym (given_on _ c.in-Some.ensures refl))
    (subst (λ (f : WordsFault). IsReadAs (key_named c.args.width c.in-Some.text.now) (Err f)) (sym fault.2)
    (key_unread c.args.width c.in-Some.text.now _ c.in_err-read_key-in-Some.ensures)))
