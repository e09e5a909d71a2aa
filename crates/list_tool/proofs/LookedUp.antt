-- Keys that are looked up once the catalog and the servers are known.
use Rattle.std.specs.Prelude.{Result, Ok, Err}
use Rattle.port_trait.specs.World.{World}
use Rattle.port_trait.specs.Number.{DATABASE, INPUT}
use Rattle.list_builds.proofs.Touching.{both_touched}
use Rattle.list_words.specs.declared.asked.Find.{Find}
use Rattle.list_tool.specs.Finding.{FindsInList, LooksUp}
use Rattle.list_tool.specs.Looked.{Looked}
use Rattle.list_tool.specs.declared.fault.FindFault.{FindFault}
use Rattle.list_tool.specs.declared.fault.FindFault.TheVariants.{Catalog, Servers, Keys, Fetch, WriteFault, Memory}

pub looked_up : (order : Find) (result : Result Looked FindFault) (w u : World) → LooksUp order result w u → FindsInList order result w u
looked_up order (Ok looked) w u looks = looks
looked_up order (Err (Catalog fault)) w u looks = absurd looks.answers
looked_up order (Err (Servers fault)) w u looks = absurd looks.answers
looked_up order (Err (Keys fault)) w u looks = looks
looked_up order (Err (Fetch fault)) w u looks = looks
looked_up order (Err WriteFault) w u looks = looks
looked_up order (Err Memory) w u looks = both_touched DATABASE INPUT w looks.read u looks.has_catalog.others looks.answers
