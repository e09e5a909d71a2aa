use Rattle.std.proofs.Common.{take}
use Rattle.port_trait.specs.Number.{number}
use Rattle.list_tool.proofs.Loading.{has_text, text_loaded}
use Rattle.list_tool.proofs.catalog_file.load_opened.Goals as goal

pub returns-in-Ok-clause-loads : goal.returns-in-Ok-clause-loads
returns-in-Ok-clause-loads g c =
    let p = number c.args.port in
    let v = g.P.Ports.world c.args.ports.now in
    let u = g.P.Ports.world c.fill.new.ports in
    let has = has_text p c.in-Ok.count c.args.room.now c.fill.new.room v u c.fill.auto.room c.requires c.in-Ok.ensures.fills in
    text_loaded p (take c.in-Ok.count c.fill.new.room) c.read_text.result v u has c.read_text.ensures
