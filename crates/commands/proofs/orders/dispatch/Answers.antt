use Rattle.std.proofs.Common.{sym, ap, subst, arith}
use Rattle.commands.specs.DemoOrder.{DemoOrder}
use Rattle.commands.specs.SplitOrder.{SplitOrder}
use Rattle.commands.specs.Orders.{Outcome, Promise}
use Rattle.commands.proofs.Demonstrating.{demo_promised}
use Rattle.commands.proofs.Fronting.{front_promised}
use Rattle.commands.proofs.Headline.{fetch_promised, replay_promised}
use Rattle.commands.proofs.LookingUp.{look_up_promised}
use Rattle.commands.proofs.SelfrunHeadline.{selfrun_promised}
use Rattle.commands.proofs.ServeHeadline.{serve_promised}
use Rattle.commands.proofs.SplitHeadline.{split_promised}
use Rattle.commands.specs.declared.orders.Order.{Order}
use Rattle.commands.proofs.orders.dispatch.Goals as goal

pub returns-in-Replay-clause-outcome : goal.returns-in-Replay-clause-outcome
returns-in-Replay-clause-outcome g c =
    subst (λ (o : Order). Outcome o c.replay_file.result (g.P.Ports.world c.args.ports.now) (g.P.Ports.world c.replay_file.new.ports)) (sym c.in-Replay.is)
    (record { ends = c.replay_file.ensures.ends; others = c.replay_file.ensures.others })

pub returns-in-Replay-clause-promise : goal.returns-in-Replay-clause-promise
returns-in-Replay-clause-promise g c =
    subst (λ (o : Order). Promise o c.replay_file.result (g.P.Ports.world c.args.ports.now) (g.P.Ports.world c.replay_file.new.ports)) (sym c.in-Replay.is)
    (replay_promised _ _ _ _ _ c.replay_file.ensures.ends)

pub returns-in-Fetch-clause-outcome : goal.returns-in-Fetch-clause-outcome
returns-in-Fetch-clause-outcome g c =
    subst (λ (o : Order). Outcome o c.fetch_block.result (g.P.Ports.world c.args.ports.now) (g.P.Ports.world c.fetch_block.new.ports)) (sym c.in-Fetch.is)
    (record { ends = c.fetch_block.ensures.ends; others = c.fetch_block.ensures.others })

pub returns-in-Fetch-clause-promise : goal.returns-in-Fetch-clause-promise
returns-in-Fetch-clause-promise g c =
    subst (λ (o : Order). Promise o c.fetch_block.result (g.P.Ports.world c.args.ports.now) (g.P.Ports.world c.fetch_block.new.ports)) (sym c.in-Fetch.is)
    (fetch_promised _ _ _ _ c.fetch_block.ensures.ends)

pub returns-in-Serve-clause-outcome : goal.returns-in-Serve-clause-outcome
returns-in-Serve-clause-outcome g c =
    subst (λ (o : Order). Outcome o c.serve_file.result (g.P.Ports.world c.args.ports.now) (g.P.Ports.world c.serve_file.new.ports)) (sym c.in-Serve.is)
    (record { ends = c.serve_file.ensures.ends; others = c.serve_file.ensures.others; unnamed = c.serve_file.ensures.unnamed })

pub returns-in-Serve-clause-promise : goal.returns-in-Serve-clause-promise
returns-in-Serve-clause-promise g c =
    subst (λ (o : Order). Promise o c.serve_file.result (g.P.Ports.world c.args.ports.now) (g.P.Ports.world c.serve_file.new.ports)) (sym c.in-Serve.is)
    (serve_promised _ _ _ _ c.serve_file.ensures.ends)

pub returns-in-Selfrun-clause-outcome : goal.returns-in-Selfrun-clause-outcome
returns-in-Selfrun-clause-outcome g c =
    subst (λ (o : Order). Outcome o c.run_workload.result (g.P.Ports.world c.args.ports.now) (g.P.Ports.world c.run_workload.new.ports)) (sym c.in-Selfrun.is)
    (record { ends = c.run_workload.ensures.ends; others = c.run_workload.ensures.others })

pub returns-in-Selfrun-clause-promise : goal.returns-in-Selfrun-clause-promise
returns-in-Selfrun-clause-promise g c =
    subst (λ (o : Order). Promise o c.run_workload.result (g.P.Ports.world c.args.ports.now) (g.P.Ports.world c.run_workload.new.ports)) (sym c.in-Selfrun.is)
    (selfrun_promised _ _ _ _ c.run_workload.ensures.ends)

pub returns-in-Lookup-clause-outcome : goal.returns-in-Lookup-clause-outcome
returns-in-Lookup-clause-outcome g c =
    subst (λ (o : Order). Outcome o c.look_up_row.result (g.P.Ports.world c.args.ports.now) (g.P.Ports.world c.look_up_row.new.ports)) (sym c.in-Lookup.is)
    (record { ends = c.look_up_row.ensures.ends; others = c.look_up_row.ensures.others })

pub returns-in-Lookup-clause-promise : goal.returns-in-Lookup-clause-promise
returns-in-Lookup-clause-promise g c =
    subst (λ (o : Order). Promise o c.look_up_row.result (g.P.Ports.world c.args.ports.now) (g.P.Ports.world c.look_up_row.new.ports)) (sym c.in-Lookup.is)
    (look_up_promised _ _ _ _ c.look_up_row.ensures.ends)

pub returns-in-Split-clause-outcome : goal.returns-in-Split-clause-outcome
returns-in-Split-clause-outcome g c =
    subst (λ (o : Order). Outcome o c.split_file.result (g.P.Ports.world c.args.ports.now) (g.P.Ports.world c.split_file.new.ports)) (sym c.in-Split.is)
    (record { ends = c.split_file.ensures.ends; others = c.split_file.ensures.others })

pub returns-in-Split-clause-promise : goal.returns-in-Split-clause-promise
returns-in-Split-clause-promise g c =
    subst (λ (o : Order). Promise o c.split_file.result (g.P.Ports.world c.args.ports.now) (g.P.Ports.world c.split_file.new.ports)) (sym c.in-Split.is)
    (split_promised _ _ _ _ (omega (arith, c.order-in-Split.invariant.0, ap (λ (s : SplitOrder). s.width) c.order-in-Split.view_is)) c.split_file.ensures.ends)

pub returns-in-Front-clause-outcome : goal.returns-in-Front-clause-outcome
returns-in-Front-clause-outcome g c =
    subst (λ (o : Order). Outcome o c.relay_shards.result (g.P.Ports.world c.args.ports.now) (g.P.Ports.world c.relay_shards.new.ports)) (sym c.in-Front.is)
    (record { ends = c.relay_shards.ensures.ends; others = c.relay_shards.ensures.others; unnamed = c.relay_shards.ensures.unnamed })

pub returns-in-Front-clause-promise : goal.returns-in-Front-clause-promise
returns-in-Front-clause-promise g c =
    subst (λ (o : Order). Promise o c.relay_shards.result (g.P.Ports.world c.args.ports.now) (g.P.Ports.world c.relay_shards.new.ports)) (sym c.in-Front.is)
    (front_promised _ _ _ _ c.relay_shards.ensures.ends)

pub returns-in-Demo-clause-outcome : goal.returns-in-Demo-clause-outcome
returns-in-Demo-clause-outcome g c =
    subst (λ (o : Order). Outcome o c.demonstrate.result (g.P.Ports.world c.args.ports.now) (g.P.Ports.world c.demonstrate.new.ports)) (sym c.in-Demo.is)
    c.demonstrate.ensures

pub returns-in-Demo-clause-promise : goal.returns-in-Demo-clause-promise
returns-in-Demo-clause-promise g c =
    subst (λ (o : Order). Promise o c.demonstrate.result (g.P.Ports.world c.args.ports.now) (g.P.Ports.world c.demonstrate.new.ports)) (sym c.in-Demo.is)
    (demo_promised _ _ _ _ (omega (arith, c.order.invariant.1.numbers.few_servers, ap (λ (d : DemoOrder). d.plan.n) c.order.view_is)) c.demonstrate.ensures)
