use Rattle.port_trait.specs.Number.{DOOR}
use Rattle.os_ports.proofs.Told.{fails, meets, touches_failed}
use Rattle.os_ports.proofs.ports.OsPortsPorts.next_guest.Goals as goal

pub returns-clause-ok : goal.returns-clause-ok
returns-clause-ok g c = meets c.told.result c.args.self.now.counts _ c.told.ensures.same

pub returns-clause-failed : goal.returns-clause-failed
returns-clause-failed g c = fails c.told.result DOOR c.args.self.now.counts _ c.told.ensures.rose

pub returns-clause-others : goal.returns-clause-others
returns-clause-others g c = touches_failed c.told.result DOOR c.args.self.now.counts _ c.told.ensures.others
