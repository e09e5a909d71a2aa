use Rattle.std.proofs.lemmas.Result.{IfOk-weaker}
use Rattle.port_trait.specs.Number.{number}
use Rattle.os_ports.proofs.Told.{fails, hands, handed_on, touches}
use Rattle.os_ports.proofs.ports.OsPortsPorts.take.Goals as goal

pub returns-clause-ok : goal.returns-clause-ok
returns-clause-ok g c = hands c.told.result (number c.args.p) c.args.self.now.counts _ c.told.ensures.same _ _ c.read-taken.auto.into (handed_on c.read-taken.result c.told.result c.told.ensures.ok _ c.read-taken.ensures)

pub returns-clause-end : goal.returns-clause-end
returns-clause-end g c = IfOk-weaker c.told.result _ _ (λ n _ _. tt) c.told.ensures.ok

pub returns-clause-failed : goal.returns-clause-failed
returns-clause-failed g c = fails c.told.result (number c.args.p) c.args.self.now.counts _ c.told.ensures.rose

pub returns-clause-others : goal.returns-clause-others
returns-clause-others g c = touches c.told.result (number c.args.p) c.args.self.now.counts _ c.told.ensures.same c.told.ensures.others
