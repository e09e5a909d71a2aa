-- Places of polynomials side by side, and parts of a list that are written anew.
use Rattle.std.proofs.Common.{◌≡◌, ◌⊎◌, ℕ, ◌+◌, ◌-◌, ◌*◌, ◌<◌, ◌≤◌, List, [], ◌++◌, length, get_or, take, drop, sym, ap, subst, ◌∙◌, arith, inl, inr, lit<, length-drop, length-append}
use Rattle.std.proofs.Math.Nat.{mul-le-mul_right}
use Rattle.std.proofs.lemmas.Bool.{cases_lt}
use Rattle.std.proofs.lemmas.List.{ext_get_or, get_or-drop, get_or-take, get_or-map, get_or_past, get_or_append_left, get_or-append_right, length-take, length-take-le, length-map}
use Rattle.std.proofs.lemmas.List.FromFn.{get_or-map-range_with_len, length-map-range_with_len}
use borrow.Rule.Slice.PartMut.{put_mid}
use Rattle.gf256.specs.Polynomial.{coef}
use Rattle.gf256.specs.declared.vectors.TheConstants.{LANES}
use Rattle.gf256.proofs.FlatRows.{row_within}
use Rattle.bi_poly.specs.Rows.{row, cell}
use Rattle.gs_interpolate.specs.Family.{lane, member, FillsVectors}

-- what a written part holds
pub part_here : (xs ys : List ℕ) (a n g : ℕ) → a + n ≤ length xs → length ys ≡ n → g < n → get_or (put_mid a n xs ys) (a + g) 0 ≡ get_or ys g 0
part_here xs ys a n g room size l =
    let front = take a xs in
    let back = drop n (drop a xs) in
    get_or-append_right front (ys ++ back) a (a + g) 0 (length-take-le a xs (omega (arith, room))) (omega arith)
    ∙ ap (λ k. get_or (ys ++ back) k 0) (let e : a + g - a ≡ g = omega arith in e)
    ∙ get_or_append_left ys back 0 g (omega (arith, size, l))

-- and what stands elsewhere
pub part_elsewhere : (xs ys : List ℕ) (a n k : ℕ) → a + n ≤ length xs → length ys ≡ n → (k < a) ⊎ (a + n ≤ k) → get_or (put_mid a n xs ys) k 0 ≡ get_or xs k 0
part_elsewhere xs ys a n k room size there =
    let front = take a xs in
    let back = drop n (drop a xs) in
    let long = length-take-le a xs (omega (arith, room)) in
    elim there [
      | inl l ↦ get_or_append_left front (ys ++ back) 0 k (omega (arith, long, l)) ∙ get_or-take a xs k 0 l
      | inr l ↦
          get_or-append_right front (ys ++ back) a k 0 long (omega arith)
          ∙ get_or-append_right ys back n (k - a) 0 size (omega arith)
          ∙ get_or-drop n (drop a xs) (k - a - n) 0 ∙ get_or-drop a xs (n + (k - a - n)) 0
          ∙ ap (λ i. get_or xs i 0) (let e : a + (n + (k - a - n)) ≡ k = omega arith in e)
    ]

-- the list stays as long
pub part_size : (xs ys : List ℕ) (a n : ℕ) → a + n ≤ length xs → length ys ≡ n → length (put_mid a n xs ys) ≡ length xs
part_size xs ys a n room size =
    let front = take a xs in
    let back = drop n (drop a xs) in
    let long = length-take-le a xs (omega (arith, room)) in
    omega (arith, long, room, size, length-append front (ys ++ back), length-append ys back, length-drop n (drop a xs), length-drop a xs)

-- a part before it is written
pub part_before : (xs : List ℕ) (a n g : ℕ) → g < n → get_or (take n (drop a xs)) g 0 ≡ get_or xs (a + g) 0
part_before xs a n g l = get_or-take n (drop a xs) g 0 l ∙ get_or-drop a xs g 0

-- a part of bytes has bytes
pub part_bytes : (xs : List ℕ) (a n k : ℕ) → ((k : ℕ) → get_or xs k 0 < 256) → get_or (take n (drop a xs)) k 0 < 256
part_bytes xs a n k bytes =
    elim (cases_lt k n) [
      | inl l ↦ subst (λ x. x < 256) (sym (part_before xs a n k l)) (bytes (a + k))
      | inr l ↦ subst (λ x. x < 256) (sym (get_or_past (take n (drop a xs)) k 0 (omega (arith, l, length-take n (drop a xs))))) (lit< tt)
    ]

-- and as long as it is wanted
pub length-part : (xs : List ℕ) (a n : ℕ) → a + n ≤ length xs → length (take n (drop a xs)) ≡ n
length-part xs a n room = length-take-le n (drop a xs) (omega (arith, room, length-drop a xs))

-- as is the part of a row with one power of x, of those below some count for which it has room
pub length-power : (row : List ℕ) (n i count len : ℕ) → i < count → count * n ≤ len → length row ≡ len → length (take (i * n + n - i * n) (drop (i * n) row)) ≡ n
length-power row n i count len l room size =
    let whole : i * n + n - i * n ≡ n = omega arith in
    ap (λ k. length (take k (drop (i * n) row))) whole ∙ length-part row (i * n) n (omega (arith, row_within i count n l, room, size))

-- a part that was written, as a list
pub part_written : (xs ys : List ℕ) (a n : ℕ) → a + n ≤ length xs → length ys ≡ n → take n (drop a (put_mid a n xs ys)) ≡ ys
part_written xs ys a n room size =
    let now = put_mid a n xs ys in
    let all = part_size xs ys a n room size in
    let long = length-part now a n (omega (arith, all, room)) in
    ext_get_or 0 (take n (drop a now)) ys (long ∙ sym size)
    (λ k l. let h : k < n = omega (arith, long, l) in part_before now a n k h ∙ part_here xs ys a n k room size h)

-- another part, as a list
pub part_kept : (xs ys : List ℕ) (a n b : ℕ) → a + n ≤ length xs → b + n ≤ length xs → length ys ≡ n → (b + n ≤ a) ⊎ (a + n ≤ b)
    → take n (drop b (put_mid a n xs ys)) ≡ take n (drop b xs)
part_kept xs ys a n b room there size apart =
    let now = put_mid a n xs ys in
    let all = part_size xs ys a n room size in
    let long = length-part now b n (omega (arith, all, there)) in
    ext_get_or 0 (take n (drop b now)) (take n (drop b xs)) (long ∙ sym (length-part xs b n there))
    (λ k l.
    let h : k < n = omega (arith, long, l) in
    part_before now b n k h
    ∙ part_elsewhere xs ys a n (b + k) room size (elim apart [ inl x ↦ inl (omega (arith, x, h)) | inr x ↦ inr (omega (arith, x)) ])
    ∙ sym (part_before xs b n k h))

-- the coefficient at x ^ i of the polynomial at place g
pub coef-lane : (n g : ℕ) (r : List ℕ) (i : ℕ) → 1 ≤ n → coef (lane n g r) i ≡ get_or r (i * n + g) 0
unfolding coef lane
coef-lane n g r i some =
    let f = λ (i : ℕ). get_or r (i * n + g) 0 in
    elim (cases_lt i (length r)) [
      | inl l ↦ get_or-map-range_with_len f 0 (length r) i i 0 l (omega arith)
      | inr l ↦
          let size = length-map-range_with_len f 0 (length r) in
          let h = mul-le-mul_right i some in
          get_or_past (lane n g r) i 0 (omega (arith, size, l)) ∙ sym (get_or_past r (i * n + g) 0 (omega (arith, h, l)))
    ]

-- row j of the polynomial at place g
pub row-member : (n : ℕ) (rows : List (List ℕ)) (g j : ℕ) → row (member n rows g) j ≡ lane n g (row rows j)
unfolding lane
row-member n rows g j =
    elim (cases_lt j (length rows)) [
      | inl l ↦ get_or-map (lane n g) rows j [] [] l
      | inr l ↦
          get_or_past (member n rows g) j [] (let s = length-map rows (lane n g) in omega (arith, s, l))
          ∙ ap (lane n g) (sym (get_or_past rows j [] l))
    ]

-- its coefficient at x ^ i * y ^ j
pub cell-member : (n : ℕ) (rows : List (List ℕ)) (g j i : ℕ) → 1 ≤ n → cell (member n rows g) j i ≡ get_or (row rows j) (i * n + g) 0
unfolding cell
cell-member n rows g j i some = ap (λ r. coef r i) (row-member n rows g j) ∙ coef-lane n g (row rows j) i some

-- bytes that fill so many vectors
pub fills-enough : (n bytes : ℕ) → FillsVectors n bytes → n * LANES ≤ bytes
fills-enough n bytes fills = elim fills.1 [ inl all ↦ omega (arith, all) | inr more ↦ omega (arith, more) ]

-- and where there are more, these are 16
pub fills-more : (n bytes : ℕ) → FillsVectors n bytes → n * LANES < bytes → bytes ≡ n * LANES + 16
fills-more n bytes fills past = elim fills.1 [ inl all ↦ absurd (omega (arith, all, past)) | inr more ↦ more ]
