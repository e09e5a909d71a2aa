use Rattle.port_trait.specs.Number.{child}
use Rattle.os_ports.proofs.Told.{fails, starts, touches_failed}
use Rattle.os_ports.proofs.ports.OsPortsPorts.start_child.Goals as goal

pub returns-clause-ok : goal.returns-clause-ok
returns-clause-ok g c = starts c.told.result c.args.self.now.counts _ c.told.ensures.same _

pub returns-clause-failed : goal.returns-clause-failed
returns-clause-failed g c = fails c.told.result (child c.args.i) c.args.self.now.counts _ c.told.ensures.rose

pub returns-clause-others : goal.returns-clause-others
returns-clause-others g c = touches_failed c.told.result (child c.args.i) c.args.self.now.counts _ c.told.ensures.others
