use Rattle.std.proofs.Common.{◌≡◌, Err, Some, ap, subst, sym, ◌∙◌}
use Rattle.toml.specs.View.{table_view, view}
use Rattle.list_catalog.specs.Documents.{servers_among, servers_in, servers_of, some_servers}
use Rattle.list_catalog.specs.Reading.{Comes}
use Rattle.list_catalog.proofs.Lookups.{is_table, no_table}
use Rattle.list_catalog.proofs.Servings.{some_servers-fault}
use Rattle.list_catalog.proofs.read.servers_in.Goals as goal

pub returns-in_default-as_table : goal.returns-in_default-as_table
unfolding servers_in
returns-in_default-as_table c =
    sym (sym (no_table (view c.in-Some.value.now) c.in_default-as_table.ensures) ∙ ap servers_among c.in-Some.ensures)

pub returns-in-Ok : goal.returns-in-Ok
unfolding servers_in
returns-in-Ok c =
    sym (ap servers_among c.in-Some.ensures)
    ∙ ap (λ d. servers_among (Some d)) (is_table (view c.in-Some.value.now) (table_view c.in-Some-as_table.table.now) c.in-Some-as_table.ensures)
    ∙ ap some_servers c.in-Ok.ensures

pub returns-in-Err : goal.returns-in-Err
unfolding servers_in
returns-in-Err c =
    let same : some_servers (servers_of (table_view c.in-Some-as_table.table.now)) ≡ servers_in (table_view c.args.document.now) =
    ap (λ d. servers_among (Some d)) (sym (is_table (view c.in-Some.value.now) (table_view c.in-Some-as_table.table.now) c.in-Some-as_table.ensures))
    ∙ ap servers_among c.in-Some.ensures in
    subst (λ wanted. Comes wanted (Err c.in-Err.fault)) same (some_servers-fault _ c.in-Err.fault c.in-Err.ensures)
