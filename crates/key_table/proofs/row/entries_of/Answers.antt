use Rattle.std.proofs.Common.{◌≡◌, ◌==◌, ◌*◌, length, take, drop, Bool, true, false, not, eqb, refl, sym, ap, ap₂, ◌∙◌, arith, rules, true≢false}
use Rattle.std.specs.List.{list_all}
use Rattle.std.specs.Cmp.Lexicographic.{bytes_decides, pointwise}
use Rattle.key_table.proofs.Frames.{frame_parts, framed-from_parts}
use Rattle.key_table.proofs.row.entries_of.Goals as goal

-- what isn't false is true
same_unless : (b : Bool) → not b ≡ false → b ≡ true
same_unless true h = refl
same_unless false h = absurd (true≢false h)

pub returns-then-row-lt-HEAD_SIZE : goal.returns-then-row-lt-HEAD_SIZE
returns-then-row-lt-HEAD_SIZE c = λ n entries f. omega (arith, f.fits, c.if-row-lt-HEAD_SIZE.true)

pub returns-then-ne : goal.returns-then-ne
returns-then-ne c = λ n entries f.
    let eight : length c.args.tag.now ≡ 8 = search rules in
    let parts = frame_parts (length c.args.row.now) c.args.tag.now c.args.row.now n entries eight f.few f.is in
    let same : c.split_at.result.0.now ≡ c.as_slice.result.now = c.split_at.ensures.front ∙ parts.first ∙ (search rules) in
    let equal = (bytes_decides c.split_at.result.0.now c.as_slice.result.now).1 same in
    true≢false (sym c.if-ne.true ∙ c.ne.ensures ∙ ap not equal)

pub returns-then-taken-rest : goal.returns-then-taken-rest
returns-then-taken-rest c = λ n entries f.
    let eight : length c.args.tag.now ≡ 8 = search rules in
    let row = c.args.row.now in
    let parts = frame_parts (length row) c.args.tag.now row n entries eight f.few f.is in
    let count : c.from-count.result ≡ n = c.from-count.ensures ∙ c.from_be_bytes.ensures ∙ parts.count in
    let taken : c.from-count.result * c.args.step ≡ n * c.args.step = ap (λ k. k * c.args.step) count in
    omega (arith, f.fits, c.if-taken-rest.true, taken, c.split_at-2.ensures.back_len)

pub returns-then-are_zeros : goal.returns-then-are_zeros
returns-then-are_zeros c =
    let row = c.args.row.now in
    let entries = c.split_at-3.result.0.now in
    let taken : length entries ≡ c.from-count.result * c.args.step = c.split_at-3.ensures.front_len in
    let front : entries ≡ take (length entries) (drop 10 row) =
    c.split_at-3.ensures.front ∙ ap₂ (λ n bs. take n bs) (sym taken) c.split_at-2.ensures.back in
    let back : c.split_at-3.result.1.now ≡ drop (length entries) (drop 10 row) =
    c.split_at-3.ensures.back ∙ ap₂ (λ n bs. drop n bs) (sym taken) c.split_at-2.ensures.back in
    let equal = same_unless (pointwise eqb c.split_at.result.0.now c.as_slice.result.now) (sym c.ne.ensures ∙ c.if-ne.false) in
    let own : c.split_at.result.0.now ≡ c.as_slice.result.now = (bytes_decides c.split_at.result.0.now c.as_slice.result.now).0 equal in (
      c.from-count.result,
      record {
        size = taken;
        few = search rules;
        fits = omega (arith, taken, c.if-taken-rest.false, c.split_at-2.ensures.back_len);
        is = framed-from_parts c.args.tag.now row c.from-count.result entries (omega (arith, c.if-row-lt-HEAD_SIZE.false)) (λ i. (c.type_inv.row i).fits)
            (sym c.split_at.ensures.front ∙ own ∙ (search rules)) (c.from-count.ensures ∙ c.from_be_bytes.ensures) (sym front)
            (ap (list_all (λ b. b == 0)) (sym back) ∙ sym c.are_zeros.ensures ∙ c.if-are_zeros.true);
      },
    )

pub returns-else-are_zeros : goal.returns-else-are_zeros
returns-else-are_zeros c = λ n entries f.
    let eight : length c.args.tag.now ≡ 8 = search rules in
    let row = c.args.row.now in
    let parts = frame_parts (length row) c.args.tag.now row n entries eight f.few f.is in
    let count : c.from-count.result ≡ n = c.from-count.ensures ∙ c.from_be_bytes.ensures ∙ parts.count in
    let taken : c.from-count.result * c.args.step ≡ length entries = ap (λ k. k * c.args.step) count ∙ sym f.size in
    let back : c.split_at-3.result.1.now ≡ drop (length entries) (drop 10 row) =
    c.split_at-3.ensures.back ∙ ap₂ (λ k bs. drop k bs) taken c.split_at-2.ensures.back in
    true≢false (sym parts.back ∙ ap (list_all (λ b. b == 0)) (sym back) ∙ sym c.are_zeros.ensures ∙ c.if-are_zeros.false)
