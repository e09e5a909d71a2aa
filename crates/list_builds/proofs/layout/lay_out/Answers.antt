use Rattle.std.proofs.Common.{◌<◌, length, refl, sym, subst}
use Rattle.list_builds.specs.Gathering.{Gathered}
use Rattle.list_builds.specs.Laid.{Laid}
use Rattle.list_builds.specs.Layout.{IsLaidOut, most_for}
use Rattle.list_builds.proofs.Laying.{laid_out, shape_of_list, some_sorted}
use Rattle.list_builds.proofs.layout.lay_out.Goals as goal

pub invariant_of-result : goal.invariant_of-result
invariant_of-result c =
    let held = c.list.inside.entries in
    let sorted = c.in-Ok.sorted in
    let some = subst (λ (l : Gathered). 0 < length l.held.pairs) (sym c.list.view_is) c.requires.some in (
      c.tag.ensures,
      shape_of_list c.args.rows sorted c.in-Ok-shape_for.shape c.in-Ok-shape_for.ensures,
      some_sorted c.most-most.result held.pairs sorted.pairs c.in-Ok.ensures.3 some,
    )

pub returns-in-Ok-shape_for : goal.returns-in-Ok-shape_for
returns-in-Ok-shape_for c =
    let inside = c.list.inside in
    let list : Gathered = record { held = inside.entries; longest = inside.longest; returns = inside.all_end_with_return } in
    let laid : Laid = record { salt = c.args.salt; sorted = c.in-Ok.sorted; shape = c.in-Ok-shape_for.shape } in
    subst (λ (l : Gathered). IsLaidOut c.args.salt (most_for c.args.values l.longest) c.args.rows l.held laid) c.list.view_is
    (laid_out c.args.salt c.args.values c.args.rows list c.most-most.result laid c.most-most.ensures refl c.in-Ok.ensures c.in-Ok-shape_for.ensures)
