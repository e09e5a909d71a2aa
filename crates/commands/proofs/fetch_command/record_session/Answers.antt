use Rattle.std.proofs.Common.{refl}
use Rattle.port_trait.proofs.Cells.{touches_more}
use Rattle.commands.proofs.fetch_command.record_session.Goals as goal

pub returns-in_default-clause-others : goal.returns-in_default-clause-others
returns-in_default-clause-others g c = record { others = λ q l ne. refl; crowd = refl; started = refl }

pub returns-in_err-open-clause-others : goal.returns-in_err-open-clause-others
returns-in_err-open-clause-others g c = c.open.ensures.others

pub returns-clause-others : goal.returns-clause-others
returns-clause-others g c = touches_more _ _ _ _ c.open.ensures.others c.write_session.ensures.others
