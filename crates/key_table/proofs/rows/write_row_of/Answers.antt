use Rattle.std.proofs.Common.{◌≡◌, ◌+◌, ◌-◌, ◌*◌, ◌++◌, length, take, drop, replicate, sym, ap, ap₂, ◌∙◌, arith, rules, w16, mul-le-mul_right, ◌≤◌}
use Rattle.std.specs.Int.{to_be_bytes}
use Rattle.std.specs.List.{flat_map}
use Rattle.std.proofs.lemmas.List.{length-drop, length-take}
use Rattle.key_table.specs.Entry.{entry}
use Rattle.key_table.specs.Table.{framed, head_size}
use Rattle.key_table.proofs.rows.write_row_of.Goals as goal

pub overflow_cast-number : goal.overflow_cast-number
overflow_cast-number c =
    let count = c.args.end - c.args.start in
    let size = ap (λ n. n * count) c.entry_size.ensures.size in
    let most : 8 * count ≤ c.entry_size.result * count = mul-le-mul_right count c.entry_size.ensures.least in
    omega (arith, most, size, c.requires.room, c.requires.short)

pub returns : goal.returns
unfolding framed
returns c =
    let list = c.args.entries.now in
    let count = c.args.end - c.args.start in
    let part = take count (drop c.args.start list.pairs) in
    let bytes = flat_map (entry list.most) part in
    let many : count ≡ length part = omega (arith, length-take count (drop c.args.start list.pairs), length-drop c.args.start list.pairs, c.requires.within) in
    let tag : c.copy_from_slice.new.self ≡ c.args.tag.now = search rules in
    let two : c.copy_from_slice-2.new.self ≡ to_be_bytes w16 count = search rules in
    let long : length bytes ≡ c.entry_size.result * count = sym (ap length c.write_entries.ensures) ∙ c.write_entries.auto.out ∙ c.split_at_mut-own.ensures.front_len in
    let left : length c.split_at_mut-own.result.1.now ≡ length c.args.out.now - (head_size + length bytes) =
    omega (arith, long, c.split_at_mut-front.ensures.back_len, c.split_at_mut-middle.ensures.back_len, c.split_at_mut-own.ensures.back_len) in
    ap₂ (λ x y. x ++ y) tag
    (ap₂ (λ x y. x ++ y) (two ∙ ap (to_be_bytes w16) many) (ap₂ (λ x y. x ++ y) c.write_entries.ensures (c.clear.ensures ∙ ap (λ n. replicate n 0) left)))
