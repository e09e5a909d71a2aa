use Rattle.list_catalog.proofs.Faithful.{IsFaithful-from}
use Rattle.list_catalog.proofs.read.read_catalog.Goals as goal

pub returns-clause-catalog : goal.returns-clause-catalog
returns-clause-catalog c = IsFaithful-from c.args.text.now c.catalog_of.result c.catalog_of.ensures
