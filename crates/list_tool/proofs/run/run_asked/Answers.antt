use Rattle.std.proofs.Common.{◌≡◌, sym, subst}
use Rattle.std.specs.Prelude.{Result}
use Rattle.port_trait.specs.World.{World}
use Rattle.list_builds.specs.Builds.{Builds, TouchesBuilt}
use Rattle.list_builds.specs.Order.{Order}
use Rattle.list_builds.specs.Promise.{BuildPromise}
use Rattle.list_builds.specs.declared.fault.Built.{Built}
use Rattle.list_builds.specs.declared.fault.BuildFault.{BuildFault}
use Rattle.list_words.specs.declared.asked.Asked.{Asked}
use Rattle.list_words.specs.declared.asked.Asked.TheVariants.{Build as ToBuild}
use Rattle.list_words.specs.declared.asked.Build.{Build}
use Rattle.list_tool.specs.BuildWords.{order_for}
use Rattle.list_tool.specs.Run.{EndsAs}
use Rattle.list_tool.specs.declared.run.ListEnd.TheVariants.{Built as HasBuilt}
use Rattle.list_tool.proofs.run.run_asked.Goals as goal

-- what was done for the order is what was asked for
ends_built : (asked : Asked) (build : Build) (o : Order) (result : Result Built BuildFault) (old new : World) → asked ≡ ToBuild build → o ≡ order_for build
    → Builds o result old new → BuildPromise o result old new → TouchesBuilt o old new → EndsAs asked (HasBuilt result) old new
ends_built asked build o result old new is same builds promise others =
    subst (λ (a : Asked). EndsAs a (HasBuilt result) old new) (sym is)
    (subst (λ (order : Order). Builds order result old new × BuildPromise order result old new × TouchesBuilt order old new) same (builds, promise, others))

pub returns-in-Build : goal.returns-in-Build
returns-in-Build g c =
    ends_built c.args.asked c.in-Build.build c.order_for.result c.build_list.result (g.P.Ports.world c.args.ports.now) (g.P.Ports.world c.build_list.new.ports)
    c.in-Build.is c.order_for.ensures c.build_list.ensures.builds c.build_list.ensures.promise c.build_list.ensures.others
