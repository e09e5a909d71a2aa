-- Sums that lie one piece after the other in one list.
use Rattle.std.proofs.Common.{◌≡◌, ℕ, ◌+◌, ◌-◌, ◌*◌, ◌≤◌, ◌<◌, List, ◌++◌, length, get_or, slice_index, take, drop, set, sym, ap, ap₂, ◌∙◌, arith, inl, inr, length-drop}
use borrow.Rule.Slice.PartMut.{put_mid, post_of}
use Rattle.std.proofs.lemmas.Bool.{cases_lt}
use Rattle.std.proofs.lemmas.List.{length-take-le, get_or-take, get_or-drop, get_or_append_left, get_or-append_right, get_or-set_same, get_or-set_other}
use Rattle.std.proofs.Math.Nat.{mul-le-mul_right}
use Rattle.gf256.specs.Field.{◌⊕◌}
use Rattle.gf256.specs.Sums.{run_sum}
use Rattle.row_workers.specs.Pieces.{piece}
use Rattle.row_workers.proofs.Workers.{at-range}

-- a place of a piece
pub piece-at : (xs : List ℕ) (size v k : ℕ) → k < size → slice_index (piece size xs v) k ≡ slice_index xs (v * size + k)
piece-at xs size v k l =
    let some : k < (v + 1) * size - v * size = grind arith in
    at-range xs (v * size) ((v + 1) * size - v * size) k some

-- how long a piece is
pub length-piece : (xs : List ℕ) (size v count : ℕ) → v < count → length xs ≡ count * size → length (piece size xs v) ≡ size
length-piece xs size v count l long =
    let n : (v + 1) * size - v * size ≡ size = grind arith in
    let most : (v + 1) * size ≤ count * size = grind (arith, l) in
    let rest = length-drop (v * size) xs in
    ap (λ m. length (take m (drop (v * size) xs))) n ∙ length-take-le size (drop (v * size) xs) (omega (arith, rest, long, most, n))

-- a place before a part that is written over
pub put-below : (a k : ℕ) (xs ys : List ℕ) (p : ℕ) → a ≤ length xs → p < a → get_or (put_mid a k xs ys) p 0 ≡ get_or xs p 0
put-below a k xs ys p room l =
    let size = length-take-le a xs room in
    get_or_append_left (take a xs) _ 0 p (omega (arith, size, l)) ∙ get_or-take a xs p 0 l

-- a place in this part
pub put-at : (a k : ℕ) (xs ys : List ℕ) (p : ℕ) → a ≤ length xs → p < length ys → get_or (put_mid a k xs ys) (a + p) 0 ≡ get_or ys p 0
put-at a k xs ys p room l =
    let size = length-take-le a xs room in
    let back : a + p - a ≡ p = omega arith in
    get_or-append_right (take a xs) _ a (a + p) 0 size (omega arith) ∙ ap (λ q. get_or (ys ++ post_of a k xs) q 0) back ∙ get_or_append_left ys _ 0 p l

-- a place past it
pub put-above : (a k : ℕ) (xs ys : List ℕ) (p : ℕ) → a ≤ length xs → length ys ≡ k → a + k ≤ p → get_or (put_mid a k xs ys) p 0 ≡ get_or xs p 0
put-above a k xs ys p room long l =
    let size = length-take-le a xs room in
    let there : a + (k + (p - a - k)) ≡ p = omega arith in
    get_or-append_right (take a xs) (ys ++ post_of a k xs) a p 0 size (omega arith)
    ∙ get_or-append_right ys (post_of a k xs) k (p - a) 0 long (omega arith)
    ∙ get_or-drop k (drop a xs) (p - a - k) 0 ∙ get_or-drop a xs (k + (p - a - k)) 0 ∙ ap (λ q. get_or xs q 0) there

-- how long a part is
pub length-part : (xs : List ℕ) (a e : ℕ) → a ≤ e → e ≤ length xs → length (take (e - a) (drop a xs)) ≡ e - a
length-part xs a e le room = let rest = length-drop a xs in length-take-le (e - a) (drop a xs) (omega (arith, rest))

-- one more piece
pub pieces-more : (sums new : List ℕ) (h : ℕ → ℕ → ℕ) (width n m : ℕ) → m < n → length sums ≡ n * width
    → length new ≡ length (take ((m + 1) * width - m * width) (drop (m * width) sums))
    → ((c : ℕ) → c < width → slice_index new c ≡ h m c)
    → ((v c : ℕ) → v < m → c < width → slice_index sums (v * width + c) ≡ h v c)
    → (v c : ℕ) → v < m + 1 → c < width → slice_index (put_mid (m * width) ((m + 1) * width - m * width) sums new) (v * width + c) ≡ h v c
pieces-more sums new h width n m few room long more before v c l k =
    let next : (m + 1) * width ≡ m * width + width = grind arith in
    let most = mul-le-mul_right width (let s : m + 1 ≤ n = omega arith in s) in
    let size = long ∙ length-part sums (m * width) ((m + 1) * width) (omega (arith, next)) (omega (arith, most, room)) in
    elim (cases_lt v m) [
      | inl low ↦
          let below = mul-le-mul_right width (let s : v + 1 ≤ m = omega arith in s) in
          let after : (v + 1) * width ≡ v * width + width = grind arith in
          put-below (m * width) ((m + 1) * width - m * width) sums new (v * width + c) (omega (arith, most, next, room)) (omega (arith, below, after, k))
          ∙ before v c low k
      | inr high ↦
          let same : v ≡ m = omega arith in
          ap (λ u. slice_index (put_mid (m * width) ((m + 1) * width - m * width) sums new) (u * width + c)) same
          ∙ put-at (m * width) ((m + 1) * width - m * width) sums new c (omega (arith, most, next, room)) (omega (arith, size, next, k))
          ∙ more c k ∙ ap (λ u. h u c) (sym same)
    ]

-- a place of a list that is filled from its beginning on
pub filled-next : (xs : List ℕ) (h : ℕ → ℕ) (m x : ℕ) → m < length xs → x ≡ h m → ((p : ℕ) → p < m → get_or xs p 0 ≡ h p)
    → (p : ℕ) → p < m + 1 → get_or (set xs m x) p 0 ≡ h p
filled-next xs h m x room is before p l =
    elim (cases_lt p m) [
      | inl low ↦ get_or-set_other xs m p x 0 (λ same. omega arith) ∙ before p low
      | inr high ↦
          let same : p ≡ m = omega arith in
          ap (λ q. get_or (set xs m x) q 0) same ∙ get_or-set_same xs m x 0 room ∙ is ∙ ap h (sym same)
    ]

-- the bytes of the first queries are among those of all
pub part_fits : (n count r rows total : ℕ) → n ≤ count → r ≡ rows → total ≡ count * rows → n * r ≤ total
part_fits n count r rows total l e size = omega (arith, mul-le-mul_right rows l, ap (λ k. n * k) e, size)

-- how many places a part has
pub part-size : (done end width : ℕ) → done ≤ end → (end - done) * width ≡ end * width - done * width
part-size done end width le =
    let whole : done + (end - done) ≡ end = omega arith in
    let e : (done + (end - done)) * width ≡ done * width + (end - done) * width = grind arith in
    let f = ap (λ n. n * width) whole in
    omega (arith, e, f)

-- rows that are added to the sums of one query more
module _ (sums new old : List ℕ) (width n m from to w : ℕ) (ew : w ≡ width) (few : m < n) (room : length sums ≡ n * width)
    (long : length new ≡ length (take ((m + 1) * w - m * w) (drop (m * w) sums)))
    (kept : (p : ℕ) → m * width ≤ p → slice_index sums p ≡ slice_index old p) where
  -- where the next query's sums begin
  next_is : (m + 1) * width ≡ m * width + width
  next_is = grind arith

  -- which is within the sums
  within_is : (m + 1) * width ≤ length sums
  within_is = let h = mul-le-mul_right width (let s : m + 1 ≤ n = omega arith in s) in omega (arith, h)

  -- how many sums are new
  size_is : length new ≡ (m + 1) * width - m * width
  size_is =
      let next = next_is in
      long ∙ ap (λ w. length (take ((m + 1) * w - m * w) (drop (m * w) sums))) ew
      ∙ length-part sums (m * width) ((m + 1) * width) (omega arith) within_is

  -- the sums past them are as before
  pub rest-kept : (p : ℕ) → (m + 1) * width ≤ p → slice_index (put_mid (m * w) ((m + 1) * w - m * w) sums new) p ≡ slice_index old p
  rest-kept p l =
      let next = next_is in
      let within = within_is in
      ap (λ w. slice_index (put_mid (m * w) ((m + 1) * w - m * w) sums new) p) ew
      ∙ put-above (m * width) ((m + 1) * width - m * width) sums new p (omega arith) size_is (omega arith) ∙ kept p (omega arith)

  -- those up to their end have the rows
  pub rest-done : (f : ℕ → ℕ → ℕ)
      → ((c : ℕ) → c < width → slice_index new c ≡ slice_index (take ((m + 1) * w - m * w) (drop (m * w) sums)) c ⊕ run_sum (f (m * width + c)) from to)
      → ((p : ℕ) → p < m * width → slice_index sums p ≡ slice_index old p ⊕ run_sum (f p) from to)
      → (p : ℕ) → p < (m + 1) * width
      → slice_index (put_mid (m * w) ((m + 1) * w - m * w) sums new) p ≡ slice_index old p ⊕ run_sum (f p) from to
  rest-done f more before p l =
      let next = next_is in
      let within = within_is in
      let size = size_is in
      ap (λ w. slice_index (put_mid (m * w) ((m + 1) * w - m * w) sums new) p) ew
      ∙ elim (cases_lt p (m * width)) [
        | inl low ↦ put-below (m * width) ((m + 1) * width - m * width) sums new p (omega arith) low ∙ before p low
        | inr high ↦
            let c = p - m * width in
            let there : m * width + c ≡ p = omega arith in
            let small : c < width = omega arith in
            ap (slice_index (put_mid (m * width) ((m + 1) * width - m * width) sums new)) (sym there)
            ∙ put-at (m * width) ((m + 1) * width - m * width) sums new c (omega arith) (omega arith)
            ∙ more c small
            ∙ ap₂ ◌⊕◌
            (ap (λ w. slice_index (take ((m + 1) * w - m * w) (drop (m * w) sums)) c) ew
            ∙ at-range sums (m * width) ((m + 1) * width - m * width) c (omega arith) ∙ kept (m * width + c) (omega arith) ∙ ap (slice_index old) there)
            (ap (λ q. run_sum (f q) from to) there)
      ]
