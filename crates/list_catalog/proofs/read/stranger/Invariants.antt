use Rattle.std.proofs.Common.{◌≡◌, not}
use Rattle.std.specs.List.{find}
use Rattle.toml.specs.View.{members_view}
use Rattle.list_catalog.specs.Documents.{is_known, names, stranger}
use Rattle.list_catalog.proofs.read.stranger.Given as goal

abbrev pub invariant-members : goal.invariant-members
invariant-members l =
    (goal.iterator-members).can_next l.name-iterator × (goal.iterator-members).is_finite l.name-iterator
    × (stranger l.known (members_view l.name-iterator) ≡ stranger l.known (members_view l.table.entries))
