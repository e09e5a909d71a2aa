use Rattle.std.proofs.Common.{◌≡◌, ℕ, ◌+◌, ◌-◌, ◌*◌, ◌<◌, ◌≤◌, ◌++◌, List, length, length-drop, get_or, take, drop, inl, inr, sym, ap, ap₂, subst, ◌∙◌, arith, add-mul}
use Rattle.std.proofs.lemmas.Bool.{cases_lt}
use Rattle.std.proofs.lemmas.Grind.{div_ceil_times}
use Rattle.std.proofs.lemmas.List.{drop-drop, get_or-drop, get_or-take, get_or_past, get_or_append_left, get_or-append_right, length-take-le}
use Rattle.gf256.specs.Field.{◌⊕◌, ◌⊗◌}
use Rattle.gf256.proofs.Xor.{add_zero}
use Rattle.gf256.proofs.FieldLaws.{mul_zero}
use Rattle.gs_interpolate.specs.Expansion.{folded}
use Rattle.gs_interpolate.proofs.Expansions.{folded-none, folded-next}
use Rattle.gs_interpolate.proofs.Places.{part_before}
use Rattle.gs_interpolate.proofs.expansion.fold_pieces.Goals as goal

pub loop-b-init : goal.loop-b-init
loop-b-init c = λ k l.
    let n = length c.clear.new.row in
    let row = c.args.row.now in
    let past = drop (c.div_ceil-b.result * n) row in
    let times = div_ceil_times (length row) n (omega (arith, l)) in
    let all : length row ≤ c.div_ceil-b.result * n = subst (λ x. length row ≤ x * n) (sym c.div_ceil-b.ensures) times.0 in
    c.clear.ensures k ∙ sym (folded-none n c.args.products.now k past (omega (arith, all, length-drop (c.div_ceil-b.result * n) row)))

-- the piece at i, of m places, in front of those behind it
piece_raised : (n p i m k : ℕ) (row sums made : List ℕ) → 1 ≤ n → k < n → m ≤ n → n ≡ length sums → (m < n → length row ≤ i * n + m)
    → ((k : ℕ) → get_or row k 0 < 256) → length made ≡ m
    → ((k : ℕ) → k < m → get_or made k 0 ≡ get_or row (i * n + k) 0 ⊕ p ⊗ get_or sums k 0)
    → get_or sums k 0 ≡ folded n p (drop ((i + 1) * n) row) k
    → get_or (made ++ drop m sums) k 0 ≡ folded n p (drop (i * n) row) k
piece_raised n p i m k row sums made some l few size end byte long is behind =
    let rest = drop (i * n) row in
    let after : drop ((i + 1) * n) row ≡ drop n rest = ap (λ j. drop j row) (let e : (i + 1) * n ≡ i * n + n = omega (arith, add-mul i 1 n) in e) ∙ sym (drop-drop n (i * n) row) in
    let next = folded-next n p k rest some (λ j. subst (λ x. x < 256) (sym (get_or-drop (i * n) row j 0)) (byte (i * n + j))) in
    let held = behind ∙ ap (λ xs. folded n p xs k) after in
    elim (cases_lt k m) [
      | inl inside ↦
          get_or_append_left made (drop m sums) 0 k (omega (arith, inside, long)) ∙ is k inside
          ∙ ap₂ (λ x y. x ⊕ p ⊗ y) (sym (get_or-drop (i * n) row k 0)) held ∙ sym next
      | inr past ↦
          let whole : m + (k - m) ≡ k = omega (arith, past) in
          let partial = end (omega (arith, l, past)) in
          let none = folded-none n p k (drop n rest) (omega (arith, length-drop n rest, length-drop (i * n) row, partial, few)) in
          let zero = get_or-drop (i * n) row k 0 ∙ get_or_past row (i * n + k) 0 (omega (arith, partial, past)) in
          get_or-append_right made (drop m sums) m k 0 long past ∙ get_or-drop m sums (k - m) 0 ∙ ap (λ j. get_or sums j 0) whole
          ∙ held ∙ none
          ∙ sym (next ∙ ap₂ (λ x y. x ⊕ p ⊗ y) zero none ∙ ap (◌⊕◌ 0) (mul_zero p) ∙ add_zero 0)
    ]

pub loop-b-preserved : goal.loop-b-preserved
loop-b-preserved c = λ k l.
    let n = length c.clear.new.row in
    let row = c.args.row.now in
    let p = c.args.products.now in
    let sums = c.loop-b.sums in
    let i = c.loop-b.b - 1 in
    let one : c.loop-b.b ≡ i + 1 = omega (arith, c.loop-b-test.true) in
    let m = c.min-end.result - i * n in
    let part = take m (drop (i * n) row) in
    let size = c.loop-b.auto.sums in
    let fits : length (take m sums) ≡ m = length-take-le m sums (omega (arith, c.min-end.ensures, size)) in
    piece_raised n p i m k row sums c.raise.new.sums (omega (arith, l)) l (omega (arith, c.min-end.ensures)) (sym size)
    (λ few. omega (arith, c.min-end.ensures, few)) (λ j. (c.type_inv.row j).fits) (c.raise.ensures.size ∙ fits)
    (λ j h. c.raise.ensures.done j (omega (arith, h, fits)) ∙ ap₂ (λ x y. x ⊕ p ⊗ y) (part_before row (i * n) m j h) (get_or-take m sums j 0 h))
    (subst (λ b. get_or sums k 0 ≡ folded n p (drop (b * n) row) k) one (c.loop-b.invariant k l))

pub returns : goal.returns
returns c = λ k l.
    let n = length c.clear.new.row in
    let size = c.loop-b.auto.sums in
    let none : c.loop-b.b * n ≡ 0 = (let b : c.loop-b.b ≡ 0 = omega (arith, c.loop-b-test.false) in ap (λ i. i * n) b ∙ (let e : 0 * n ≡ 0 = omega arith in e)) in
    c.loop-b.invariant k (omega (arith, l, size))
    ∙ ap₂ (λ m i. folded m c.args.products.now (drop i c.args.row.now) k) (sym size) none
