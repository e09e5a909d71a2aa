use Rattle.std.proofs.Common.{◌<◌, ◌∙◌, inl, sym, subst, arith, rules}
use Rattle.commands.specs.Faults.{of_load}
use Rattle.commands.specs.SplitOrder.{SplitOrder}
use Rattle.commands.specs.SplitOutcome.{SplitEnds}
use Rattle.commands.specs.declared.status.Status.{Status}
use Rattle.commands.proofs.Splitting.{both_touch, loaded_by, split_ends, unloaded}
use Rattle.commands.proofs.split_command.split_file.Goals as goal

pub returns-in-Ok-load_to_share-clause-ends : goal.returns-in-Ok-load_to_share-clause-ends
returns-in-Ok-load_to_share-clause-ends g c =
    let start = g.P.Ports.world c.args.ports.now in
    let opened = g.P.Ports.world c.open.new.self in
    let loaded = g.P.Ports.world c.load_to_share.new.ports in
    let end = g.P.Ports.world c.share_out.new.ports in
    let i = c.order.inside in
    let o : SplitOrder = record {
      database = i.database.now;
      width = i.width;
      servers = i.servers;
      tau = i.tau;
      into = i.into.now;
      coins = i.coins.now;
    } in
    let few : i.servers < 256 = search rules in
    let shares = rw (← c.order.view_is) at c.share_out.ensures.shares in
    let others = rw (← c.order.view_is) at c.share_out.ensures.others in
    let is_open = c.in-Ok.ensures.ok in
    let first = c.open.ensures.others in
    let second = c.load_to_share.ensures.others in
    let m = c.in-Ok-load_to_share.matrix in
    let is_loaded = loaded_by o start opened loaded is_open first second m c.in-Ok-load_to_share.ensures.loads in
    let touch = both_touch o start opened loaded is_open first second in
    subst (λ (p : SplitOrder). SplitEnds p c.share_out.result start end) c.order.view_is
    (split_ends o m start loaded end few is_loaded touch others c.share_out.result shares)

pub returns-in_default-clause-ends : goal.returns-in_default-clause-ends
returns-in_default-clause-ends g c =
    let fails = c.in_default.ensures.failed in
    inl (record { n = 0; fewer = omega arith; cell = inl fails.cell; rose = fails.rose }, c.open.ensures.others)

pub returns-in_default-clause-others : goal.returns-in_default-clause-others
returns-in_default-clause-others g c =
    let first = c.open.ensures.others in
    record { others = λ q l to_tell to_load to_toss to_share. first.others q l to_load; crowd = first.crowd; started = first.started }

pub returns-in-Err-clause-ends : goal.returns-in-Err-clause-ends
returns-in-Err-clause-ends g c =
    let start = g.P.Ports.world c.args.ports.now in
    let opened = g.P.Ports.world c.open.new.self in
    let loaded = g.P.Ports.world c.load_to_share.new.ports in
    let i = c.order.inside in
    let o : SplitOrder = record {
      database = i.database.now;
      width = i.width;
      servers = i.servers;
      tau = i.tau;
      into = i.into.now;
      coins = i.coins.now;
    } in
    subst (λ (s : Status). SplitEnds c.args.order.now s start loaded) (sym c.into.ensures)
    (subst (λ (p : SplitOrder). SplitEnds p (of_load c.in-Err.fault) start loaded) c.order.view_is
    (unloaded o start opened loaded c.in-Ok.ensures.ok c.open.ensures.others c.load_to_share.ensures.others c.in-Err.fault c.in-Err.ensures.loads))

pub returns-in-Err-clause-others : goal.returns-in-Err-clause-others
returns-in-Err-clause-others g c =
    let first = c.open.ensures.others in
    let read = c.load_to_share.ensures.others in
    record {
      others = λ q l to_tell to_load to_toss to_share. read.others q l to_load ∙ first.others q l to_load;
      crowd = read.crowd ∙ first.crowd;
      started = read.started ∙ first.started;
    }
