-- Parts of a buffer.
use Rattle.std.proofs.Common.{◌≡◌, inl, inr, ℕ, ◌+◌, ◌-◌, ◌<◌, ◌≤◌, List, ◌++◌, length, take, drop, min, sym, ◌∙◌, ap, ap₂, arith}
use Rattle.std.proofs.lemmas.Bool.{cases_lt}
use Rattle.std.proofs.lemmas.List.{drop-drop, drop-take, drop_all, length-drop, length-take-le, take-take}
use Rattle.std.proofs.Math.Seq.{take-add}
use Rattle.std.proofs.lemmas.List.{with_items_is}
use Rattle.std.specs.Prelude.{Vec}
use Rattle.std.specs.Vec.{with_items}
use Rattle.list_keys.specs.Window.{part}

-- how long a part is
pub length_part : (bytes : List ℕ) (from to : ℕ) → to ≤ length bytes → from ≤ to → length (part bytes from to) ≡ to - from
length_part bytes from to within order = length-take-le (to - from) (drop from bytes) (omega (arith, within, order, length-drop from bytes))

-- a part that stays, with more behind it
pub part_more : (before after : List ℕ) (start count more : ℕ)
    → take (start + count) after ≡ take (start + count) before
    → part after start (start + count + more) ≡ take count (drop start before) ++ take more (drop (start + count) after)
part_more before after start count more kept =
    let size : start + count + more - start ≡ count + more = omega arith in
    ap (λ n. take n (drop start after)) size
    ∙ take-add count more (drop start after)
    ∙ ap₂ (λ xs ys. xs ++ ys)
    (sym (drop-take start count after) ∙ ap (drop start) kept ∙ drop-take start count before)
    (ap (take more) (drop-drop count start after))

-- the start of a part
pub part_start : (bytes : List ℕ) (start end at : ℕ) → at ≤ end - start → part bytes start (start + at) ≡ take at (part bytes start end)
part_start bytes start end at le =
    let size : start + at - start ≡ at = omega arith in
    ap (λ n. take n (drop start bytes)) size ∙ sym (take-take at (end - start) (drop start bytes) le)

-- what is behind a place of a part
pub part_behind : (bytes : List ℕ) (start end next : ℕ) → start + next ≤ end → part bytes (start + next) end ≡ drop next (part bytes start end)
part_behind bytes start end next le =
    let size : end - start ≡ next + (end - (start + next)) = omega (arith, le) in
    sym (ap (λ n. drop next (take n (drop start bytes))) size
    ∙ drop-take next (end - (start + next)) (drop start bytes)
    ∙ ap (take (end - (start + next))) (drop-drop next start bytes))

-- behind the whole of it nothing is
pub part_none : (bytes : List ℕ) (start end next : ℕ) → end ≤ length bytes → start ≤ end → end < start + next → part bytes end end ≡ drop next (part bytes start end)
part_none bytes start end next within order lt =
    let none : end - end ≡ 0 = omega arith in
    ap (λ n. take n (drop end bytes)) none
    ∙ sym (drop_all next (part bytes start end) (omega (arith, length_part bytes start end within order, lt)))

-- what is unread behind a line: all of it, if the line is all that is unread
pub part_next : (bytes : List ℕ) (start end at : ℕ) → end ≤ length bytes → start ≤ end → part bytes (min end (start + at + 1)) end ≡ drop (at + 1) (part bytes start end)
part_next bytes start end at within order = elim (cases_lt end (start + at + 1)) [
  | inl past ↦
      let is : min end (start + at + 1) ≡ end = omega (arith, past) in
      ap (λ n. part bytes n end) is ∙ part_none bytes start end (at + 1) within order (omega (arith, past))
  | inr there ↦
      let is : min end (start + at + 1) ≡ start + (at + 1) = omega (arith, there) in
      ap (λ n. part bytes n end) is ∙ part_behind bytes start end (at + 1) (omega (arith, there))
]

-- what is unread, wherever it stands now, with more behind it
pub part_filled : (items moved before after : List ℕ) (start end next more : ℕ) (rest : List ℕ)
    → take (end - start) (drop next moved) ≡ part items start end → part items start end ≡ rest → before ≡ moved
    → take (next + (end - start)) after ≡ take (next + (end - start)) before
    → part after next (next + (end - start) + more) ≡ rest ++ take more (drop (next + (end - start)) after)
part_filled items moved before after start end next more rest there is same kept =
    part_more before after next (end - start) more kept
    ∙ ap (λ xs. xs ++ take more (drop (next + (end - start)) after))
    (ap (λ xs. take (end - start) (drop next xs)) same ∙ there ∙ is)

-- the same of a buffer whose bytes were moved and then written behind
pub part_refilled : {Z : Type 0} (bytes : Vec ℕ Z) (moved before after : List ℕ) (start end next more : ℕ) (rest : List ℕ)
    → length moved ≡ bytes.len → before ≡ (with_items bytes moved).items → length after ≡ bytes.len
    → take (end - start) (drop next moved) ≡ part bytes.items start end → part bytes.items start end ≡ rest
    → take (next + (end - start)) after ≡ take (next + (end - start)) before
    → part (with_items (with_items bytes moved) after).items next (next + (end - start) + more)
    ≡ rest ++ take more (drop (next + (end - start)) after)
part_refilled bytes moved before after start end next more rest size_moved same size_after there is kept =
    ap (λ xs. part xs next (next + (end - start) + more)) (with_items_is (with_items bytes moved) after size_after)
    ∙ part_filled bytes.items moved before after start end next more rest there is (same ∙ with_items_is bytes moved size_moved) kept
