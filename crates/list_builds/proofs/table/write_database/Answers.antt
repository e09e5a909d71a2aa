use Rattle.std.proofs.Common.{◌≡◌, ◌∙◌, ◌<◌, ℕ, List, ap, subst, arith}
use Rattle.std.specs.Prelude.{Ok}
use Rattle.std.specs.List.{concat}
use Rattle.port_trait.specs.Number.{RECORD}
use Rattle.key_table.specs.Rows.{Rows}
use Rattle.list_builds.specs.Laid.{Laid, rows_in, table_in}
use Rattle.list_builds.specs.TableBytes.{WritesRows, table_of}
use Rattle.list_builds.proofs.Carried.{unwritten_closed}
use Rattle.list_builds.proofs.Written.{database_whole, table_has_bytes}
use Rattle.list_builds.proofs.table.write_database.Goals as goal

pub returns-in_default-clause-writes : goal.returns-in_default-clause-writes
returns-in_default-clause-writes g c =
    let own : 0 < c.laid.inside.shape.rows = omega (arith, c.laid.invariant.1.is_shape.some_rows) in
    let some = subst (λ (l : Laid). 0 < l.shape.rows) c.laid.view_is own in
    unwritten_closed RECORD c.args.name.now (concat (table_in c.args.laid.now)) (g.P.Ports.world c.args.ports.now) (g.P.Ports.world c.open.new.self)
    (table_has_bytes (rows_in c.args.laid.now) some) c.in_default.ensures.failed

pub returns-in-Ok-write_rows-clause-writes : goal.returns-in-Ok-write_rows-clause-writes
returns-in-Ok-write_rows-clause-writes g c =
    let w = g.P.Ports.world c.args.ports.now in
    let v = g.P.Ports.world c.open.new.self in
    let u = g.P.Ports.world c.write_rows.new.ports in
    let inside = c.laid.inside in
    let with_tag : List ℕ → Rows = λ tag. record { sorted = inside.sorted; tag = tag; rows = inside.shape.rows; width = inside.shape.width; next = 0 } in
    let is : c.new-table.result ≡ rows_in c.args.laid.now = c.new-table.ensures ∙ ap with_tag c.laid.invariant.0 ∙ ap rows_in c.laid.view_is in
    database_whole c.args.name.now (table_in c.args.laid.now) w v u c.in-Ok.ensures.ok c.in-Ok-write_rows.hash
    (subst (λ (t : Rows). WritesRows (table_of t) (Ok c.in-Ok-write_rows.hash) v u) is c.in-Ok-write_rows.ensures.writes)
