-- The values of rows in lanes, by halves.
use Rattle.std.proofs.Common.{◌≡◌, ℕ, ◌+◌, ◌-◌, ◌*◌, ◌/◌, ◌%◌, ◌<◌, ◌≤◌, List, ◌++◌, length, map, get_or, drop, bit_xor, sym, ap, ap₂, ◌∙◌, inl, inr, arith, zero-add, zero-mul, one-mul, length-drop, subst}
use Rattle.std.specs.List.{range_with_len}
use Rattle.std.specs.Simd.Lanes.{zip2}
use Rattle.std.proofs.Math.Nat.{add-mul, mul_assoc, mul_comm, mul_left_comm as nat_left_comm}
use Rattle.std.proofs.lemmas.Bool.{cases_lt}
use Rattle.std.proofs.lemmas.List.{ext_get_or, get_or_append_left, get_or-append_right, get_or-drop, drop-drop, drop_all}
use Rattle.std.proofs.lemmas.Nat.{div-mul-add, mod-mul-add}
use Rattle.std.proofs.lemmas.List.FromFn.{length-map-range_with_len, get_or-map-range_with_len}
use Rattle.gf256.specs.Field.{◌⊕◌, ◌⊗◌, power}
use Rattle.gf256.specs.Polynomial.{coef, val}
use Rattle.gf256.specs.Rows.{AreLanes}
use Rattle.gf256.specs.Sums.{sum_to}
use Rattle.gf256.proofs.Xor.{add_comm, add_zero, zero_add}
use Rattle.gf256.proofs.FieldLaws.{mul_one, one_mul, mul_zero, mul_left_comm, mul_assoc as field_assoc}
use Rattle.gf256.proofs.Powers.{power-add}
use Rattle.gf256.proofs.Sums.{sum_to-same, sum_to-append, mul-sum_to}
use Rattle.gf256.proofs.LaneSums.{lanes-sum, lanes-times}
use Rattle.uni_poly.proofs.Values.{val_to, val_nil}
use Rattle.shamir_share.specs.Query.{row_coins, masks}
use Rattle.shamir_share.specs.Lanes.{AreSixteens, even_first, spread, spread_even_first, eights, pairs, padded, part, paired, joined, value_from}
use Rattle.gf256.proofs.FlatRows.{row_within}
use Rattle.shamir_share.proofs.Rows.{masks_at, length-masks, length-row_coins}

-- n rows are so many sixteens, and as many rows more as before the last ones that are read
pub by_sixteens : (n t w : ℕ) → AreSixteens n → w ≤ 16 → (n - w) * t ≡ (n / 16 - 1) * (16 * t) + (16 - w) * t
by_sixteens n t w lanes few =
    let h = n / 16 - 1 in
    let all : n - w ≡ 16 * h + (16 - w) = omega (arith, lanes.0, lanes.1, few) in
    ap (λ m. m * t) all ∙ add-mul (16 * h) (16 - w) t ∙ ap (λ m. m + (16 - w) * t) (mul_assoc 16 h t ∙ nat_left_comm 16 h t)

-- lanes that have these
pub lanes-are : (n : ℕ) (lanes : List ℕ) (f : ℕ → ℕ) → length lanes ≡ n → ((k : ℕ) → k < n → get_or lanes k 0 ≡ f k) → AreLanes n lanes f 0
lanes-are n lanes f long same = record { size = long; each = λ k l. same k l ∙ ap f (sym (zero-add k)) }

-- lane k
lane-at : (n : ℕ) (lanes : List ℕ) (f : ℕ → ℕ) (k : ℕ) → k < n → AreLanes n lanes f 0 → get_or lanes k 0 ≡ f k
lane-at n lanes f k l h = h.each k l ∙ ap f (zero-add k)

-- lanes that have the same
pub lanes-same : (n : ℕ) (lanes : List ℕ) (f g : ℕ → ℕ) → ((k : ℕ) → k < n → f k ≡ g k) → AreLanes n lanes f 0 → AreLanes n lanes g 0
lanes-same n lanes f g same h = lanes-are n lanes g h.size (λ k l. lane-at n lanes f k l h ∙ same k l)

-- n places of any list
pub picked : (n : ℕ) (xs : List ℕ) (f : ℕ → ℕ) → AreLanes n (map (λ i. get_or xs (f i) 0) (range_with_len 0 n)) (λ i. get_or xs (f i) 0) 0
picked n xs f = lanes-are n _ (λ i. get_or xs (f i) 0) (length-map-range_with_len (λ i. get_or xs (f i) 0) 0 n)
    (λ k l. get_or-map-range_with_len (λ i. get_or xs (f i) 0) 0 n k k 0 l (zero-add k))

-- number j of a sixteen of one of two lists: of the first for the first eight lanes of each sixteen
of_sixteen : (n : ℕ) (x y : List ℕ) (f h : ℕ → ℕ) (k j v : ℕ) → n % 16 ≡ 0 → k < n → j < 16 → AreLanes n x f 0 → AreLanes n y h 0
    → (k % 16 < 8 → f (k / 16 * 16 + j) ≡ v) → (8 ≤ k % 16 → h (k / 16 * 16 + j) ≡ v)
    → get_or (x ++ y) (k / 16 * 16 + k % 16 / 8 * n + j) 0 ≡ v
of_sixteen n x y f h k j v whole l few first second low high =
    let within : k / 16 * 16 + j < n = omega (arith, whole, l, few) in
    elim (cases_lt (k % 16) 8) [
      | inl m ↦
          let none : k % 16 / 8 ≡ 0 = omega (arith, m) in
          let place : k / 16 * 16 + k % 16 / 8 * n + j ≡ k / 16 * 16 + j = omega (arith, ap (λ z. z * n) none, zero-mul n) in
          ap (λ i. get_or (x ++ y) i 0) place ∙ get_or_append_left x y 0 (k / 16 * 16 + j) (omega (arith, first.size, within))
          ∙ lane-at n x f (k / 16 * 16 + j) within first ∙ low m
      | inr m ↦
          let one : k % 16 / 8 ≡ 1 = omega (arith, m) in
          let place : k / 16 * 16 + k % 16 / 8 * n + j ≡ n + (k / 16 * 16 + j) = omega (arith, ap (λ z. z * n) one, one-mul n) in
          ap (λ i. get_or (x ++ y) i 0) place ∙ get_or-append_right x y n (n + (k / 16 * 16 + j)) 0 first.size (omega arith)
          ∙ ap (λ i. get_or y i 0) (omega arith) ∙ lane-at n y h (k / 16 * 16 + j) within second ∙ high m
    ]

-- a part is the even half, and the odd half times a power
part_twice : (g : ℕ → ℕ) (n a k : ℕ) → part g n a (2 * k) ⊕ power a n ⊗ part g n a (2 * k + 1) ≡ part g (n + n) a k
unfolding part
part_twice g n a k =
    let even : n * (2 * k) ≡ (n + n) * k = omega (arith, mul_comm n (2 * k), mul_assoc 2 k n, add-mul n n k, mul_comm n k) in
    let odd : n * (2 * k + 1) ≡ (n + n) * k + n = omega (arith, mul_comm n (2 * k + 1), add-mul (2 * k) 1 n, mul_assoc 2 k n, add-mul n n k, mul_comm n k) in
    ap₂ ◌⊕◌
    (sum_to-same _ (λ e. g ((n + n) * k + e) ⊗ power a e) n (λ e l. ap (λ p. g (p + e) ⊗ power a e) even))
    (mul-sum_to (power a n) (λ e. g (n * (2 * k + 1) + e) ⊗ power a e) n
    ∙ sum_to-same _ (λ e. g ((n + n) * k + (n + e)) ⊗ power a (n + e)) n
    (λ e l. mul_left_comm (power a n) _ (power a e)
    ∙ ap₂ (λ p q. g p ⊗ q) (ap (λ p. p + e) odd ∙ omega arith) (sym (power-add a n e))))
    ∙ sym (sum_to-append (λ e. g ((n + n) * k + e) ⊗ power a e) n n)

-- twice a gap
twice_gap : (q gap wide : ℕ) → wide ≡ 2 * gap → q * wide ≡ 2 * (q * gap)
twice_gap q gap wide e = omega (arith, ap (λ w. q * w) e, mul_comm q (2 * gap), mul_assoc 2 gap q, mul_comm gap q)

-- the values of twice as many lanes each
pub parts_twice : (n : ℕ) (x y made : List ℕ) (g : ℕ → ℕ) (m a f at to gap wide : ℕ) → n % 16 ≡ 0 → f ≡ power a m → to ≡ 2 * at → wide ≡ 2 * gap
    → AreLanes n x (λ k. part g m a (spread to wide k)) 0 → AreLanes n y (λ k. part g m a (spread (to + 16) wide k)) 0
    → AreLanes n made (paired n x y f) 0 → AreLanes n made (λ k. part g (m + m) a (spread at gap k)) 0
parts_twice n x y made g m a f at to gap wide whole factor place double first second is =
    lanes-same n made (paired n x y f) (λ k. part g (m + m) a (spread at gap k)) (λ k l.
    ap₂ (λ p q. p ⊕ f ⊗ q)
    (ap (λ i. get_or (x ++ y) i 0) (let e : pairs n k ≡ k / 16 * 16 + k % 16 / 8 * n + (2 * (k % 8) + 0) = omega arith in e) ∙ here k l 0 (omega arith)
    ∙ ap (part g m a) (let e : 2 * spread at gap k + 0 ≡ 2 * spread at gap k = omega arith in e))
    (ap (λ i. get_or (x ++ y) i 0) (let e : pairs n k + 1 ≡ k / 16 * 16 + k % 16 / 8 * n + (2 * (k % 8) + 1) = omega arith in e) ∙ here k l 1 (omega arith))
    ∙ ap (λ p. part g m a (2 * spread at gap k) ⊕ p ⊗ part g m a (2 * spread at gap k + 1)) factor
    ∙ part_twice g m a (spread at gap k)) is
  where
    here : (k : ℕ) → k < n → (d : ℕ) → d < 2 → get_or (x ++ y) (k / 16 * 16 + k % 16 / 8 * n + (2 * (k % 8) + d)) 0 ≡ part g m a (2 * spread at gap k + d)
    here k l d few =
        let j = 2 * (k % 8) + d in
        let small : j < 16 = omega (arith, few) in
        let row : (k / 16 * 16 + j) / 16 ≡ k / 16 = omega (arith, small) in
        let column : (k / 16 * 16 + j) % 16 ≡ j = omega (arith, small) in
        let far = ap (λ q. q * wide) row ∙ twice_gap (k / 16) gap wide double in
        of_sixteen n x y (λ k. part g m a (spread to wide k)) (λ k. part g m a (spread (to + 16) wide k)) k j (part g m a (2 * spread at gap k + d)) whole l small first second
        (λ low. ap (part g m a) (let e : spread to wide (k / 16 * 16 + j) ≡ 2 * spread at gap k + d = omega (arith, far, column, place, low) in e))
        (λ high. ap (part g m a) (let e : spread (to + 16) wide (k / 16 * 16 + j) ≡ 2 * spread at gap k + d = omega (arith, far, column, place, high) in e))

-- a number is the value of itself
part_one : (g : ℕ → ℕ) (a k : ℕ) → g k < 256 → g k ≡ part g 1 a k
unfolding part sum_to power
part_one g a k byte =
    let place : k ≡ 1 * k + 0 = omega arith in
    ap g place ∙ sym (mul_one (g (1 * k + 0)) (subst (λ p. g p < 256) place byte)) ∙ sym (zero_add _)

-- the values of pairs of lanes
pub parts_of_lanes : (n : ℕ) (x y made : List ℕ) (g : ℕ → ℕ) (a f at to gap wide : ℕ) → n % 16 ≡ 0 → ((k : ℕ) → g k < 256) → f ≡ a → to ≡ 2 * at → wide ≡ 2 * gap
    → AreLanes n x (λ k. g (spread_even_first to wide k)) 0 → AreLanes n y (λ k. g (spread_even_first (to + 16) wide k)) 0
    → AreLanes n made (joined n x y f) 0 → AreLanes n made (λ k. part g 2 a (spread at gap k)) 0
unfolding power
parts_of_lanes n x y made g a f at to gap wide whole bytes factor place double first second is =
    lanes-same n made (joined n x y f) (λ k. part g 2 a (spread at gap k)) (λ k l.
    let s = spread at gap k in
    let z = g (2 * s + 1) in
    ap₂ (λ p q. p ⊕ f ⊗ q)
    (ap (λ i. get_or (x ++ y) i 0) (let e : eights n k ≡ k / 16 * 16 + k % 16 / 8 * n + (k % 8 + 0 * 8) = omega arith in e) ∙ here k l 0 (omega arith)
    ∙ ap g (let e : 2 * s + 0 ≡ 2 * s = omega arith in e) ∙ part_one g a (2 * s) (bytes _))
    (ap (λ i. get_or (x ++ y) i 0) (let e : eights n k + 8 ≡ k / 16 * 16 + k % 16 / 8 * n + (k % 8 + 1 * 8) = omega arith in e) ∙ here k l 1 (omega arith))
    ∙ ap (◌⊕◌ (part g 1 a (2 * s)))
    (ap₂ ◌⊗◌ factor (sym (one_mul z (bytes _))) ∙ sym (field_assoc a 1 z) ∙ ap (◌⊗◌ (a ⊗ 1)) (part_one g a (2 * s + 1) (bytes _)))
    ∙ part_twice g 1 a s) is
  where
    here : (k : ℕ) → k < n → (d : ℕ) → d < 2 → get_or (x ++ y) (k / 16 * 16 + k % 16 / 8 * n + (k % 8 + d * 8)) 0 ≡ g (2 * spread at gap k + d)
    here k l d few =
        let j = k % 8 + d * 8 in
        let small : j < 16 = omega (arith, few) in
        let row : (k / 16 * 16 + j) / 16 ≡ k / 16 = omega (arith, small) in
        let column : (k / 16 * 16 + j) % 16 ≡ j = omega (arith, small) in
        let sorted : even_first ((k / 16 * 16 + j) % 16) ≡ 2 * (k % 8) + d = ap even_first column ∙ omega (arith, few) in
        let far = ap (λ q. q * wide) row ∙ twice_gap (k / 16) gap wide double in
        of_sixteen n x y (λ k. g (spread_even_first to wide k)) (λ k. g (spread_even_first (to + 16) wide k)) k j (g (2 * spread at gap k + d)) whole l small first second
        (λ low. ap g (let e : spread_even_first to wide (k / 16 * 16 + j) ≡ 2 * spread at gap k + d = omega (arith, far, sorted, place, low) in e))
        (λ high. ap g (let e : spread_even_first (to + 16) wide (k / 16 * 16 + j) ≡ 2 * spread at gap k + d = omega (arith, far, sorted, place, high) in e))

-- the value of a polynomial by its first coefficients, and the rest times a power
value_split : (q : List ℕ) (n a : ℕ) → sum_to (λ e. get_or q e 0 ⊗ power a e) n ⊕ power a n ⊗ val (drop n q) a ≡ val q a
unfolding coef
value_split q n a =
    let f : ℕ → ℕ = λ e. get_or q e 0 ⊗ power a e in
    let m = length q in
    ap (λ s. sum_to f n ⊕ s)
    (ap (◌⊗◌ (power a n)) (sym (val_to (drop n q) m a (omega (arith, length-drop n q))))
    ∙ mul-sum_to (power a n) (λ e. get_or (drop n q) e 0 ⊗ power a e) m
    ∙ sum_to-same _ (λ e. f (n + e)) m (λ e l. mul_left_comm (power a n) _ (power a e) ∙ ap₂ ◌⊗◌ (get_or-drop n q e 0) (sym (power-add a n e))))
    ∙ sym (sum_to-append f n m) ∙ val_to q (n + m) a (omega arith)

-- the coefficients of row k from coin `from` on
pub part_of_row : (rows : List ℕ) (t from n a k : ℕ) → (g : ℕ → ℕ) → ((e : ℕ) → e < n → g (n * k + e) ≡ get_or (row_coins rows t k) (from + e) 0)
    → part g n a k ⊕ power a n ⊗ value_from rows t (from + n) a k ≡ value_from rows t from a k
unfolding part
part_of_row rows t from n a k g same =
    let q = drop from (row_coins rows t k) in
    ap₂ (λ x p. x ⊕ power a n ⊗ val p a)
    (sum_to-same _ (λ e. get_or q e 0 ⊗ power a e) n (λ e l. ap (λ c. c ⊗ power a e) (same e l ∙ sym (get_or-drop from (row_coins rows t k) e 0))))
    (sym (drop-drop n from (row_coins rows t k)))
    ∙ value_split q n a

-- lane e of row k
of_row : (rows : List ℕ) (t from width k e : ℕ) → e < width → padded rows t from width (width * k + e) ≡ get_or (row_coins rows t k) (from + e) 0
of_row rows t from width k e l =
    let place : width * k + e ≡ k * width + e = ap (λ x. x + e) (mul_comm width k) in
    ap₂ (λ j i. get_or (row_coins rows t j) (from + i) 0) (ap (λ x. x / width) place ∙ div-mul-add k width e l) (ap (λ x. x % width) place ∙ mod-mul-add k width e l)

-- past the last coin nothing is left
pub nothing_left : (rows : List ℕ) (t from a k : ℕ) → length (row_coins rows t k) ≤ from → value_from rows t from a k ≡ 0
nothing_left rows t from a k past = ap (λ p. val p a) (drop_all from (row_coins rows t k) past) ∙ val_nil a

-- where the sixteens follow each other, lane k is number k
spread_all : (k : ℕ) → spread 0 16 k ≡ k
spread_all k = omega arith

-- the values of narrow rows, which are read whole
pub narrow_values : (n : ℕ) (rows lanes : List ℕ) (t width a : ℕ) → n * t ≤ length rows → t ≤ width → 0 < width
    → AreLanes n lanes (λ k. part (padded rows t 0 width) width a (spread 0 16 k)) 0 → AreLanes n lanes (value_from rows t 0 a) 0
narrow_values n rows lanes t width a whole few some h =
    lanes-same n lanes (λ k. part (padded rows t 0 width) width a (spread 0 16 k)) (value_from rows t 0 a) (λ k l.
    ap (part (padded rows t 0 width) width a) (spread_all k)
    ∙ sym (add_zero _) ∙ ap (◌⊕◌ (part (padded rows t 0 width) width a k)) (sym (mul_zero (power a width)) ∙ ap (◌⊗◌ (power a width)) (sym (nothing_left rows t (0 + width) a k
    (let fit = row_within k n t l in omega (arith, few, length-row_coins rows t k (omega (arith, fit, whole)))))))
    ∙ part_of_row rows t 0 width a k (padded rows t 0 width) (λ e m. of_row rows t 0 width k e m)) h

-- what one more part makes of the values
pub values_more : (n : ℕ) (rows values products part_lanes made : List ℕ) (t from next a f : ℕ) → next ≡ from + 16 → f ≡ power a 16
    → AreLanes n values (value_from rows t next a) 0 → products ≡ map (λ b. f ⊗ b) values
    → AreLanes n part_lanes (λ k. part (padded rows t from 16) 16 a (spread 0 16 k)) 0 → made ≡ zip2 bit_xor products part_lanes
    → AreLanes n made (value_from rows t from a) 0
values_more n rows values products lanes made t from next a f e power_is before is part_is made_is =
    let g = part (padded rows t from 16) 16 a in
    subst (λ xs. AreLanes n xs (value_from rows t from a) 0) (sym made_is)
    (lanes-same n (zip2 bit_xor products lanes) (λ k. f ⊗ value_from rows t next a k ⊕ g (spread 0 16 k)) (value_from rows t from a) (λ k l.
    add_comm _ _
    ∙ ap₂ (λ x p. g (spread 0 16 k) ⊕ x ⊗ value_from rows t p a k) power_is e
    ∙ ap (λ j. g j ⊕ power a 16 ⊗ value_from rows t (from + 16) a k) (spread_all k)
    ∙ part_of_row rows t from 16 a k (padded rows t from 16) (λ i m. of_row rows t from 16 k i m))
    (lanes-sum products lanes (λ k. f ⊗ value_from rows t next a k) (λ k. g (spread 0 16 k)) 0 (lanes-times values products (value_from rows t next a) f 0 is before) part_is))

-- the values of the rows, times the point, are their masks
pub masks_from_values : (n : ℕ) (rows values made : List ℕ) (t a : ℕ) → made ≡ map (λ b. a ⊗ b) values → AreLanes n values (value_from rows t 0 a) 0 → made ≡ masks rows t n a
masks_from_values n rows values made t a is lanes =
    let h = lanes-times values made (value_from rows t 0 a) a 0 is lanes in
    ext_get_or 0 made (masks rows t n a) (h.size ∙ sym (length-masks rows t n a)) (λ k l.
    let small : k < n = omega (arith, h.size, l) in
    h.each k small ∙ ap (λ j. a ⊗ value_from rows t 0 a j) (zero-add k) ∙ sym (masks_at rows t n a k small))
