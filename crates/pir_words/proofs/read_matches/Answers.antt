use Rattle.std.proofs.Common.{subst}
use Rattle.pir_words.specs.Numbers.{given}
use Rattle.pir_words.specs.Form.{IsReadAs}
use Rattle.pir_words.proofs.Entered.{asked_at, asked_none}
use Rattle.pir_words.proofs.read_matches.Goals as goal

pub returns-in-Some-clause-form : goal.returns-in-Some-clause-form
returns-in-Some-clause-form c =
    subst (λ o. IsReadAs o c.read_command.result)
    (asked_at _ _ _ c.in-Some.name.now (given c.in-Some.inner.now) c.in-Some.ensures.name c.in-Some.ensures.rows) c.read_command.ensures.form

pub returns-in-None-clause-form : goal.returns-in-None-clause-form
returns-in-None-clause-form c = asked_none _ _ c.in-None.ensures.variant
