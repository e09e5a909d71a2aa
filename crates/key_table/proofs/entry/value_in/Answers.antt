use Rattle.std.proofs.Common.{◌≡◌, ◌==◌, ◌≤◌, ◌-◌, length, take, drop, replicate, sym, ap, ap₂, ◌∙◌, arith, rules, true≢false}
use Rattle.std.specs.List.{list_all}
use Rattle.key_table.proofs.Values.{value_bytes-from_parts, value_parts}
use Rattle.key_table.proofs.Zeros.{zeros_each}
use Rattle.key_table.proofs.entry.value_in.Goals as goal

pub returns-then-are_zeros : goal.returns-then-are_zeros
returns-then-are_zeros c =
    let value = c.split_at-2.result.0.now in
    let bytes = c.args.bytes.now in
    let few : length value ≤ c.args.most = omega (arith, c.split_at-2.ensures.front_len, c.if-count-most.false) in
    let front : value ≡ take (length value) (drop 2 bytes) =
    c.split_at-2.ensures.front ∙ ap₂ (λ n bs. take n bs) (sym c.split_at-2.ensures.front_len) c.split_at.ensures.back in
    let back : c.split_at-2.result.1.now ≡ drop (length value) (drop 2 bytes) =
    c.split_at-2.ensures.back ∙ ap₂ (λ n bs. drop n bs) (sym c.split_at-2.ensures.front_len) c.split_at.ensures.back in (
      record { few = few; no_newline = c.has_no_newline.ensures.yes (search rules) },
      value_bytes-from_parts c.args.most value bytes (λ e. c.if-most-eq0.false e) c.requires.size (λ i. (c.type_inv.bytes i).fits)
          (c.split_at-2.ensures.front_len ∙ c.from-count.ensures ∙ c.from_be_bytes.ensures) few front
          (ap (list_all (λ b. b == 0)) (sym back) ∙ sym c.are_zeros.ensures ∙ c.if-are_zeros.true),
    )

pub returns-else-are_zeros : goal.returns-else-are_zeros
returns-else-are_zeros c = λ value is_value is.
    let bytes = c.args.bytes.now in
    let parts = value_parts c.args.most value bytes (λ e. c.if-most-eq0.false e) c.requires.most is_value is in
    let count : c.from-count.result ≡ length value = c.from-count.ensures ∙ c.from_be_bytes.ensures ∙ parts.count in
    let back : c.split_at-2.result.1.now ≡ replicate (c.args.most - length value) 0 =
    c.split_at-2.ensures.back ∙ ap₂ (λ n bs. drop n bs) count c.split_at.ensures.back ∙ parts.back in
    true≢false (sym (zeros_each (c.args.most - length value)) ∙ ap (list_all (λ b. b == 0)) (sym back) ∙ sym c.are_zeros.ensures ∙ c.if-are_zeros.false)
