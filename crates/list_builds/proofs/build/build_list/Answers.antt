use Rattle.list_builds.proofs.Promised.{promise_kept}
use Rattle.list_builds.proofs.build.build_list.Goals as goal

pub returns-clause-promise : goal.returns-clause-promise
returns-clause-promise g c =
    promise_kept c.args.order.now c.build_in_steps.result (g.P.Ports.world c.args.ports.now) (g.P.Ports.world c.build_in_steps.new.ports)
    c.build_in_steps.ensures.builds
