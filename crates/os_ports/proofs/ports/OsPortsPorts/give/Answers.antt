use Rattle.port_trait.specs.Number.{number}
use Rattle.os_ports.proofs.Told.{fails, gives, handed_on, touches}
use Rattle.os_ports.proofs.ports.OsPortsPorts.give.Goals as goal

pub returns-clause-some : goal.returns-clause-some
returns-clause-some g c = handed_on c.some_taken-given.result c.told.result c.told.ensures.ok _ c.some_taken-given.ensures.some

pub returns-clause-fits : goal.returns-clause-fits
returns-clause-fits g c = handed_on c.some_taken-given.result c.told.result c.told.ensures.ok _ (handed_on c.write.result c.some_taken-given.result c.some_taken-given.ensures.same _ c.write.ensures)

pub returns-clause-ok : goal.returns-clause-ok
returns-clause-ok g c = gives c.told.result (number c.args.p) c.args.self.now.counts _ c.told.ensures.same c.args.piece.now

pub returns-clause-failed : goal.returns-clause-failed
returns-clause-failed g c = fails c.told.result (number c.args.p) c.args.self.now.counts _ c.told.ensures.rose

pub returns-clause-others : goal.returns-clause-others
returns-clause-others g c = touches c.told.result (number c.args.p) c.args.self.now.counts _ c.told.ensures.same c.told.ensures.others
