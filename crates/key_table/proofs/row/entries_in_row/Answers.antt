use Rattle.std.proofs.Common.{◌≡◌, ◌/◌, ◌≤◌, length, ap, ◌∙◌, arith}
use Rattle.key_table.specs.Looked.{making}
use Rattle.key_table.proofs.Founds.{count_from_bytes}
use Rattle.key_table.proofs.Law.{few_pairs}
use Rattle.key_table.proofs.row.entries_in_row.Goals as goal

pub overflow_cast-result : goal.overflow_cast-result
overflow_cast-result c =
    let a = c.args in
    let m = making a.tag.now a.size a.most a.rows in
    let h = c.in-Some.ensures in
    let some : 1 ≤ a.size = omega (arith, c.requires.least) in
    let few = few_pairs a.size a.most (length h.0) (length a.row.now) some h.1.fits c.requires.width in
    let count : length c.in-Some.entries.now / c.entry_size.result ≡ length h.0 =
    ap (λ e. length c.in-Some.entries.now / e) c.entry_size.ensures.size ∙ count_from_bytes m a.j a.row.now c.in-Some.entries.now some h in
    omega (arith, few, count)

pub returns-in-Some : goal.returns-in-Some
returns-in-Some c =
    let a = c.args in
    let m = making a.tag.now a.size a.most a.rows in
    let h = c.in-Some.ensures in
    (h.0, h.1, ap (λ e. length c.in-Some.entries.now / e) c.entry_size.ensures.size ∙ count_from_bytes m a.j a.row.now c.in-Some.entries.now (omega (arith, c.requires.least)) h)
