use Rattle.std.proofs.Common.{◌≡◌, ap, string_bytes, ◌∙◌}
use Rattle.toml.specs.View.{members_view, table_view, view}
use Rattle.list_catalog.specs.Member.{name_of}
use Rattle.list_catalog.specs.Writing.{with_member}
use Rattle.list_catalog.proofs.Puts.{members_view-insert_entry}
use Rattle.list_catalog.proofs.write.put.Goals as goal

pub returns : goal.returns
returns c =
    let named : string_bytes c.in_ok-name.name ≡ name_of c.args.member = c.in_ok-name.ensures.ok ∙ c.name.ensures in
    ap (λ es. members_view es) c.in_ok-insert.ensures.entries
    ∙ members_view-insert_entry c.args.table.now.entries c.in_ok-name.name c.args.value
    ∙ ap (λ k. with_member k (view c.args.value) (table_view c.args.table.now)) named
