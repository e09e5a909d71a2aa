use Rattle.std.proofs.Common.{◌≡◌, length, sym, subst, arith, rules}
use Rattle.std.specs.List.{flat_map}
use Rattle.key_table.specs.Entry.{entry}
use Rattle.key_table.specs.Table.{IsFrame}
use Rattle.key_table.specs.Looked.{making}
use Rattle.key_table.proofs.Founds.{IsRowOf-from, entries-from, frame_of_row}
use Rattle.key_table.proofs.row.judged_entries.Goals as goal

pub returns-then-are_entries : goal.returns-then-are_entries
returns-then-are_entries c =
    let a = c.args in
    let m = making a.tag.now a.size a.most a.rows in
    let frame = c.in-Some.ensures in
    let entries = c.in-Some.entries.now in
    let own = subst (λ step. IsFrame a.tag.now step a.row.now frame.0 entries) c.entry_size.ensures.size frame.1 in
    let are = c.are_entries.ensures.yes c.if-are_entries.true in
    (are.pairs, IsRowOf-from m a.j a.row.now frame.0 entries (omega (arith, c.requires.least)) own are, are.is)

pub returns-else-are_entries : goal.returns-else-are_entries
returns-else-are_entries c = λ pairs h.
    let a = c.args in
    let m = making a.tag.now a.size a.most a.rows in
    let eight : length a.tag.now ≡ 8 = search rules in
    let frame = c.in-Some.ensures in
    let entries = c.in-Some.entries.now in
    let own = subst (λ step. IsFrame a.tag.now step a.row.now frame.0 entries) c.entry_size.ensures.size frame.1 in
    c.are_entries.ensures.no c.if-are_entries.false
    (entries-from m a.j a.row.now frame.0 entries eight (omega (arith, c.requires.least)) c.requires.width own pairs h)

pub returns-in-None : goal.returns-in-None
returns-in-None c = λ pairs h.
    let a = c.args in
    let m = making a.tag.now a.size a.most a.rows in
    let frame = frame_of_row m a.j a.row.now pairs (omega (arith, c.requires.least)) c.requires.width h in
    c.in-None.ensures (length pairs) (flat_map (entry a.most) pairs)
    (subst (λ step. IsFrame a.tag.now step a.row.now (length pairs) (flat_map (entry a.most) pairs)) (sym c.entry_size.ensures.size) frame)
