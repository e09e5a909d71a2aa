use Rattle.std.proofs.Common.{◌≡◌, ◌+◌, ◌*◌, ◌<◌, ◌≤◌, length, sym, ap, ap₂, subst, ◌∙◌, arith}
use Rattle.key_table.specs.Entry.{entry_size}
use Rattle.key_table.specs.Rows.{Rows, row_bytes}
use Rattle.key_table.specs.Table.{head_size, pairs_in, table_row}
use Rattle.key_table.proofs.RowParts.{row_count, row_has_room, row_part}
use Rattle.key_table.proofs.rows.TableRows.next_row.Goals as goal

pub write_row_of-requires-clause-room : goal.write_row_of-requires-clause-room
write_row_of-requires-clause-room c =
    let i = c.self.inside in
    let list = i.entries.now in
    let there = subst (λ (r : Rows). r.next < r.rows) (sym c.self.view_is) c.requires.some in
    let wide = subst (λ (r : Rows). length c.args.out.now ≡ r.width) (sym c.self.view_is) c.requires.room in
    let room = row_has_room list.size list.most i.rows i.width i.next list.pairs there c.self.invariant.room in
    let count = row_count i.rows i.next list.pairs i.place c.row_end-end.result c.self.invariant.starts c.row_end-end.ensures in
    subst (λ n. head_size + entry_size list.size list.most * n ≤ length c.args.out.now) count
    (subst (λ w. head_size + entry_size list.size list.most * length (pairs_in i.rows i.next list.pairs) ≤ w) (sym wide) room)

pub write_row_of-requires-clause-short : goal.write_row_of-requires-clause-short
write_row_of-requires-clause-short c =
    let wide = subst (λ (r : Rows). length c.args.out.now ≡ r.width) (sym c.self.view_is) c.requires.room in
    omega (arith, wide, c.self.invariant.few)

pub returns-clause-row : goal.returns-clause-row
returns-clause-row c =
    let i = c.self.inside in
    let list = i.entries.now in
    let wide = subst (λ (r : Rows). length c.args.out.now ≡ r.width) (sym c.self.view_is) c.requires.room in
    let part = row_part i.rows i.next list.pairs i.place c.row_end-end.result c.self.invariant.starts c.row_end-end.ensures in
    c.write_row_of.ensures ∙ ap₂ (λ w ps. table_row w i.tag list.most ps) wide (sym part) ∙ ap (λ (r : Rows). row_bytes r r.next) c.self.view_is
