use Rattle.std.proofs.Common.{inl, arith}
use Rattle.port_trait.specs.Number.{number}
use Rattle.port_trait.proofs.Cells.{touches_more}
use Rattle.list_tool.proofs.Loading.{loaded}
use Rattle.list_tool.proofs.catalog_file.load_catalog.Goals as goal

pub returns-in_default-clause-loads : goal.returns-in_default-clause-loads
returns-in_default-clause-loads g c = record {
  n = 0;
  fewer = omega arith;
  cell = inl c.in_default.ensures.failed.cell;
  rose = c.in_default.ensures.failed.rose;
}

pub returns-clause-loads : goal.returns-clause-loads
returns-clause-loads g c =
    loaded (number c.args.port) c.args.name.now (g.P.Ports.world c.args.ports.now) (g.P.Ports.world c.open.new.self)
    (g.P.Ports.world c.load_opened.new.ports) c.in-Ok.ensures.ok c.load_opened.result c.load_opened.ensures.loads

pub returns-clause-others : goal.returns-clause-others
returns-clause-others g c = touches_more _ _ _ _ c.open.ensures.others c.load_opened.ensures.others
