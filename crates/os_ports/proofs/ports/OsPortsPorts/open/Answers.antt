use Rattle.port_trait.specs.Number.{number}
use Rattle.os_ports.proofs.Told.{fails, opens, touches}
use Rattle.os_ports.proofs.ports.OsPortsPorts.open.Goals as goal

pub returns-clause-ok : goal.returns-clause-ok
returns-clause-ok g c = opens c.told.result c.args.self.now.counts _ c.told.ensures.same (number c.args.p) c.args.name.now

pub returns-clause-failed : goal.returns-clause-failed
returns-clause-failed g c = fails c.told.result (number c.args.p) c.args.self.now.counts _ c.told.ensures.rose

pub returns-clause-others : goal.returns-clause-others
returns-clause-others g c = touches c.told.result (number c.args.p) c.args.self.now.counts _ c.told.ensures.same c.told.ensures.others
