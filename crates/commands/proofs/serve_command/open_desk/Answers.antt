use Rattle.std.proofs.Common.{◌∙◌, Ok, Err, ap, subst, sym}
use Rattle.std.specs.Prelude.{Result}
use Rattle.std.proofs.lemmas.Result.{err_from_is_err_and}
use Rattle.serve_core.specs.Service.{Service}
use Rattle.commands.specs.Faults.{of_load}
use Rattle.commands.specs.ServeOrder.{ServeOrder}
use Rattle.commands.specs.ServeSteps.{OpensDesk}
use Rattle.commands.specs.declared.status.Status.{Status}
use Rattle.commands.specs.declared.status.Status.TheVariants.{Memory}
use Rattle.port_trait.proofs.Cells.{touches_more}
use Rattle.commands.proofs.Loading.{desk_opened, desk_unloaded, desk_unmade, desk_unopened}
use Rattle.commands.proofs.serve_command.open_desk.Goals as goal

pub returns-in_default-clause-opens : goal.returns-in_default-clause-opens
returns-in_default-clause-opens g c = desk_unopened c.args.order.now _ _ c.in_default.ensures.failed

pub returns-in_err-matrix-clause-opens : goal.returns-in_err-matrix-clause-opens
returns-in_err-matrix-clause-opens g c =
    let start = g.P.Ports.world c.args.ports.now in
    let opened = g.P.Ports.world c.open.new.self in
    let loaded = g.P.Ports.world c.load.new.ports in
    let i = c.order.inside in
    let o : ServeOrder = record {
      scheme = i.scheme;
      database = i.database.now;
      width = i.width;
      conns = i.conns;
      listen = i.listen.now;
      workers = i.workers;
    } in
    let fault = err_from_is_err_and c.from_residual.result c.from_residual.ensures.1 in
    subst (λ (r : Result Service Status). OpensDesk c.args.order.now r start loaded) (sym (fault.1 ∙ ap Err fault.2))
    (subst (λ (v : ServeOrder). OpensDesk v (Err (of_load c.in_err-matrix.field-0.0)) start loaded) c.order.view_is
    (desk_unloaded o c.in_err-matrix.field-0.0 start opened loaded c.in-Ok.ensures.ok c.in_err-matrix.ensures.loads))

pub returns-in_err-matrix-clause-others : goal.returns-in_err-matrix-clause-others
returns-in_err-matrix-clause-others g c = touches_more _ _ _ _ c.open.ensures.others c.load.ensures.others

pub returns-in_err-open-clause-opens : goal.returns-in_err-open-clause-opens
returns-in_err-open-clause-opens g c =
    let start = g.P.Ports.world c.args.ports.now in
    let opened = g.P.Ports.world c.open.new.self in
    let loaded = g.P.Ports.world c.load.new.ports in
    let i = c.order.inside in
    let o : ServeOrder = record {
      scheme = i.scheme;
      database = i.database.now;
      width = i.width;
      conns = i.conns;
      listen = i.listen.now;
      workers = i.workers;
    } in
    let fault = err_from_is_err_and c.from_residual-in_err-open.result c.from_residual-in_err-open.ensures.1 in
    subst (λ (r : Result Service Status). OpensDesk c.args.order.now r start loaded) (sym (fault.1 ∙ ap Err fault.2))
    (subst (λ (v : ServeOrder). OpensDesk v (Err Memory) start loaded) c.order.view_is
    (desk_unmade o c.in_ok-matrix.matrix start opened loaded c.in-Ok.ensures.ok c.in_ok-matrix.ensures.loads))

pub returns-in_err-open-clause-others : goal.returns-in_err-open-clause-others
returns-in_err-open-clause-others g c = touches_more _ _ _ _ c.open.ensures.others c.load.ensures.others

pub returns-clause-opens : goal.returns-clause-opens
returns-clause-opens g c =
    let start = g.P.Ports.world c.args.ports.now in
    let opened = g.P.Ports.world c.open.new.self in
    let loaded = g.P.Ports.world c.load.new.ports in
    let i = c.order.inside in
    let o : ServeOrder = record {
      scheme = i.scheme;
      database = i.database.now;
      width = i.width;
      conns = i.conns;
      listen = i.listen.now;
      workers = i.workers;
    } in
    subst (λ (v : ServeOrder). OpensDesk v (Ok c.in_ok-open.field-0) start loaded) c.order.view_is
    (desk_opened o c.in_ok-open.field-0 c.in_ok-matrix.matrix start opened loaded c.in_ok-open.ensures c.in-Ok.ensures.ok c.in_ok-matrix.ensures.loads)

pub returns-clause-others : goal.returns-clause-others
returns-clause-others g c = touches_more _ _ _ _ c.open.ensures.others c.load.ensures.others
