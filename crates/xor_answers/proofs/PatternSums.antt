-- Sums by the pattern of the bitmaps that ask for a row.
use Rattle.std.proofs.Common.{◌≡◌, ℕ, zero, suc, ◌+◌, ◌-◌, ◌*◌, ◌/◌, ◌%◌, ◌^◌, ◌≤◌, ◌<◌, ◌≢◌, List, [], length, slice_index, slice_index_or, slice_range, take, drop, refl, sym, ap, ap₂, subst, ◌∙◌, arith, inl, inr, length-drop, add-one, Bool, true, false, if◌then◌else◌}
use mir.Val.{bool_byte}
use borrow.Rule.Slice.PartMut.{put_mid}
use Rattle.std.specs.Int.{bit_at}
use Rattle.std.proofs.lemmas.Bool.{cases_lt}
use Rattle.std.proofs.lemmas.Nat.{mul-add-lt, div-add-mod', div_below, mod_below}
use Rattle.std.proofs.lemmas.Nat.Bits.{bit_at-lt, bit_at_lowest, bit_at-suc}
use Rattle.std.proofs.lemmas.List.{length-take-le}
use Rattle.std.proofs.Math.Nat.{mul-le-mul_right, pow-succ'}
use Rattle.gf256.specs.Field.{◌⊕◌, ◌⊗◌}
use Rattle.gf256.specs.Sums.{sum_to, run_sum}
use Rattle.gf256.specs.Product.{IsMatrix}
use Rattle.gf256.proofs.Xor.{add_assoc, add_swap, add_zero, mul_bit_add}
use Rattle.gf256.proofs.FieldLaws.{zero_mul, one_mul}
use Rattle.gf256.proofs.Sums.{sum_to-same, sum_to-zero}
use Rattle.row_workers.specs.Pieces.{piece}
use Rattle.row_workers.proofs.Workers.{at-range}
use Rattle.row_workers.proofs.RunSums.{run-same}
use Rattle.row_workers.proofs.PieceSums.{piece-at, put-below, put-at, put-above, part-size}
use Rattle.chor_xor.specs.Bitmap.{bit_of, size_of}
use Rattle.chor_xor.specs.Chosen.{given}
use Rattle.xor_answers.specs.Asked.{asked}
use Rattle.xor_answers.specs.Patterns.{from_pattern, spread_at}
use Rattle.xor_answers.proofs.AnswerSums.{asked-is}

-- a bit as a byte
pub bit-byte : (b : Bool) → bool_byte b ≡ (if b then 1 else 0)
bit-byte true = refl
bit-byte false = refl

-- one bit more of a pattern
pub pattern-more : (bits : ℕ → ℕ) (p b v : ℕ) → b < 2 → b ≡ bits v → ((u : ℕ) → u < v → bit_at p (v - 1 - u) ≡ bits u)
    → (u : ℕ) → u < v + 1 → bit_at (2 * p + b) (v + 1 - 1 - u) ≡ bits u
pattern-more bits p b v small is before u l =
    elim (cases_lt u v) [
      | inl low ↦
          let place : v + 1 - 1 - u ≡ suc (v - 1 - u) = omega (arith, low) in
          let half : (2 * p + b) / 2 ≡ p = omega (arith, small) in
          ap (bit_at (2 * p + b)) place ∙ bit_at-suc (2 * p + b) (v - 1 - u) ∙ ap (λ x. bit_at x (v - 1 - u)) half ∙ before u low
      | inr high ↦
          let same : u ≡ v = omega (arith, l, high) in
          let place : v + 1 - 1 - u ≡ 0 = omega (arith, same) in
          let low : (2 * p + b) % 2 ≡ b = omega (arith, small) in
          ap (bit_at (2 * p + b)) place ∙ bit_at_lowest (2 * p + b) ∙ low ∙ is ∙ ap bits (sym same)
    ]

-- how great a pattern of a few bits is
pub pattern-below : (p v : ℕ) → p < 2 ^ v → v < 8 → p < 128
pattern-below p zero l few = omega (arith, l)
pattern-below p (suc zero) l few = omega (arith, l)
pattern-below p (suc (suc zero)) l few = omega (arith, l)
pattern-below p (suc (suc (suc zero))) l few = omega (arith, l)
pattern-below p (suc (suc (suc (suc zero)))) l few = omega (arith, l)
pattern-below p (suc (suc (suc (suc (suc zero))))) l few = omega (arith, l)
pattern-below p (suc (suc (suc (suc (suc (suc zero)))))) l few = omega (arith, l)
pattern-below p (suc (suc (suc (suc (suc (suc (suc zero))))))) l few = l
pattern-below p (suc (suc (suc (suc (suc (suc (suc (suc v)))))))) l few = absurd (omega (arith, few))

-- and of one more
pub pattern-next : (p b v : ℕ) → p < 2 ^ v → b < 2 → 2 * p + b < 2 ^ (v + 1)
pattern-next p b v l small =
    let e : 2 ^ (v + 1) ≡ 2 * 2 ^ v = ap (λ n. 2 ^ n) (add-one v) ∙ pow-succ' 2 v in
    omega (arith, e, l, small)

-- a sum of which one term is changed
pub changed : (f g : ℕ → ℕ) (n p x : ℕ) → p < n → ((q : ℕ) → q ≢ p → g q ≡ f q) → g p ≡ f p ⊕ x → sum_to g n ≡ sum_to f n ⊕ x
unfolding sum_to
changed f g zero p x l others is = absurd (omega (arith, l))
changed f g (suc n) p x l others is =
    elim (cases_lt p n) [
      | inl low ↦
          ap₂ ◌⊕◌ (changed f g n p x low others is) (others n (λ same. omega (arith, same, low)) ∙ sym (add_zero (f n)))
          ∙ add_swap (sum_to f n) x (f n) 0 ∙ ap (◌⊕◌ (sum_to f n ⊕ f n)) (add_zero x)
      | inr high ↦
          let same : n ≡ p = omega (arith, l, high) in
          ap₂ ◌⊕◌ (sum_to-same g f n (λ q m. others q (λ e. omega (arith, e, m, same))))
          (ap g same ∙ is ∙ ap (λ q. f q ⊕ x) (sym same))
          ∙ sym (add_assoc (sum_to f n) (f n) x)
    ]

-- a row that is added to the sum of its pattern
pub row-added : (patterns new row : List ℕ) (w p i k : ℕ) → length patterns ≡ 256 * w → p < 256 → k < w
    → length new ≡ length (take (p * w + w - p * w) (drop (p * w) patterns))
    → ((c : ℕ) → slice_index new c ≡ slice_index (take (p * w + w - p * w) (drop (p * w) patterns)) c ⊕ slice_index row c)
    → spread_at (put_mid (p * w) (p * w + w - p * w) patterns new) w i k ≡ spread_at patterns w i k ⊕ bit_at p i * slice_index row k
unfolding spread_at from_pattern
row-added patterns new row w p i k room small l long is =
    let at = p * w in
    let n = at + w - at in
    let most = mul-le-mul_right w (let h : p + 1 ≤ 256 = omega (arith, small) in h) in
    let next : (p + 1) * w ≡ p * w + w = grind arith in
    let fits : at + w ≤ length patterns = omega (arith, most, next, room) in
    let rest = length-drop at patterns in
    let size : length new ≡ n = long ∙ length-take-le n (drop at patterns) (omega (arith, rest, fits)) in
    changed (from_pattern patterns w i k) (from_pattern (put_mid at n patterns new) w i k) 256 p (bit_at p i * slice_index row k) small
    (λ q other.
    ap (λ x. bit_at q i * x)
    (elim (cases_lt q p) [
      | inl low ↦
          let below = mul-le-mul_right w (let h : q + 1 ≤ p = omega (arith, low) in h) in
          let after : (q + 1) * w ≡ q * w + w = grind arith in
          put-below at n patterns new (q * w + k) (omega (arith, fits)) (omega (arith, below, after, l))
      | inr high ↦
          let above = mul-le-mul_right w (let h : p + 1 ≤ q = omega (arith, high, other) in h) in
          put-above at n patterns new (q * w + k) (omega (arith, fits)) size (omega (arith, above, next))
    ]))
    (ap (λ x. bit_at p i * x)
    (put-at at n patterns new k (omega (arith, fits)) (omega (arith, size, l)) ∙ is k
    ∙ ap (λ x. x ⊕ slice_index row k) (at-range patterns at n k (omega (arith, l))))
    ∙ mul_bit_add (bit_at p i) (slice_index patterns (at + k)) (slice_index row k) (bit_at-lt p i))

-- no rows
pub spread-none : (patterns : List ℕ) (w i k : ℕ) → ((p : ℕ) → slice_index patterns p ≡ 0) → spread_at patterns w i k ≡ 0
unfolding spread_at from_pattern
spread-none patterns w i k none =
    sum_to-zero (from_pattern patterns w i k) 256 (λ p l. ap (λ x. bit_at p i * x) (none (p * w + k)) ∙ (let e : bit_at p i * 0 ≡ 0 = omega arith in e))

-- the sums of one pattern more, which has the bit
pub spread-then : (patterns : List ℕ) (w i k p old sum : ℕ) → k < w → bit_at p i ≡ 1 → old ≡ sum_to (from_pattern patterns w i k) p
    → sum ≡ old ⊕ slice_index (slice_range patterns (p * w) ((p + 1) * w)) k → sum ≡ sum_to (from_pattern patterns w i k) (p + 1)
unfolding from_pattern sum_to
spread-then patterns w i k p old sum l bit before more =
    let next : (p + 1) * w ≡ p * w + w = grind arith in
    let x = slice_index patterns (p * w + k) in
    let once : x ≡ 1 * x = omega arith in
    more
    ∙ ap₂ ◌⊕◌ before
    (at-range patterns (p * w) ((p + 1) * w - p * w) k (omega (arith, next, l)) ∙ once ∙ ap (λ b. b * x) (sym bit))
    ∙ sym (ap (sum_to (from_pattern patterns w i k)) (add-one p))

-- one that doesn't have it
pub spread-else : (patterns : List ℕ) (w i k p : ℕ) → bit_at p i ≢ 1
    → sum_to (from_pattern patterns w i k) p ≡ sum_to (from_pattern patterns w i k) (p + 1)
unfolding from_pattern sum_to
spread-else patterns w i k p other =
    let sum = sum_to (from_pattern patterns w i k) p in
    let x = slice_index patterns (p * w + k) in
    let small = bit_at-lt p i in
    let bit : bit_at p i ≡ 0 = omega (arith, small, other) in
    let none : 0 * x ≡ 0 = omega arith in
    sym (ap (sum_to (from_pattern patterns w i k)) (add-one p) ∙ ap (◌⊕◌ sum) (ap (λ b. b * x) bit ∙ none) ∙ add_zero sum)

-- how many places one of n pieces has
pub own-size : (sums : List ℕ) (width n m : ℕ) → m < n → length sums ≡ n * width
    → length (take ((m + 1) * width - m * width) (drop (m * width) sums)) ≡ width
own-size sums width n m few room =
    let next : (m + 1) * width ≡ m * width + width = grind arith in
    let most = mul-le-mul_right width (let s : m + 1 ≤ n = omega (arith, few) in s) in
    let rest = length-drop (m * width) sums in
    length-take-le ((m + 1) * width - m * width) (drop (m * width) sums) (omega (arith, rest, room, most, next)) ∙ omega (arith, next)

-- what a row gives to a bitmap, by the row's pattern
pub row-given : (bitmap row : List ℕ) (rows : List (List ℕ)) (r w p i k j : ℕ) → IsMatrix rows r w → j < r → k < w
    → bit_at p i ≡ bit_of bitmap j → row ≡ slice_index_or rows j [] → bit_at p i * slice_index row k ≡ given bitmap rows k j
unfolding given
row-given bitmap row rows r w p i k j is within l bit at =
    let byte : slice_index (slice_index_or rows j []) k < 256 =
    is.bytes j [] (let n = is.rows in omega (arith, within, n)) k 0 (let long = is.widths j [] (let n = is.rows in omega (arith, within, n)) in omega (arith, long, l)) in
    ap (λ xs. bit_at p i * slice_index xs k) at ∙ times-bit (bit_at p i) (slice_index (slice_index_or rows j []) k) (bit_at-lt p i) byte
    ∙ ap (λ b. b ⊗ slice_index (slice_index_or rows j []) k) bit where
      -- a bit times a byte, as numbers and in the field
      times-bit : (b x : ℕ) → b < 2 → x < 256 → b * x ≡ b ⊗ x
      times-bit zero x small byte = (let e : 0 * x ≡ 0 = omega arith in e) ∙ sym (zero_mul x)
      times-bit (suc zero) x small byte = (let e : 1 * x ≡ x = omega arith in e) ∙ sym (one_mul x byte)
      times-bit (suc (suc b)) x small byte = absurd (omega (arith, small))

-- what a row gives, by the bitmaps from one on up to another
asked-part : (bitmaps : List ℕ) (rows : List (List ℕ)) (width done end s p j : ℕ) → s ≡ size_of (length rows) → done ≤ end
    → p < (end - done) * width → j < 8 * s
    → asked (slice_range bitmaps (done * s) (end * s)) rows width p j ≡ asked bitmaps rows width (done * width + p) j
unfolding given bit_of
asked-part bitmaps rows width done end s p j es le l m =
    let some : 0 < width = grind arith in
    let u = p / width in
    let k = p % width in
    let small : k < width = mod_below p width some in
    let less : u < end - done = div_below p width (end - done) some l in
    let whole : u * width + k ≡ p = div-add-mod' p width in
    let place : done * width + p ≡ (done + u) * width + k = grind (arith, whole) in
    let byte : j / 8 < s = omega (arith, m) in
    let inside = mul-add-lt u s (j / 8) (end - done) less byte in
    let range : u * s + j / 8 < end * s - done * s = grind (arith, inside) in
    let there : done * s + (u * s + j / 8) ≡ (done + u) * s + j / 8 = grind arith in
    let cut = slice_range bitmaps (done * s) (end * s) in
    let same : slice_index (piece s cut u) (j / 8) ≡ slice_index (piece s bitmaps (done + u)) (j / 8) =
    piece-at cut s u (j / 8) byte ∙ at-range bitmaps (done * s) (end * s - done * s) (u * s + j / 8) range
    ∙ ap (slice_index bitmaps) there ∙ sym (piece-at bitmaps s (done + u) (j / 8) byte) in
    ap (λ q. asked cut rows width q j) (sym whole) ∙ asked-is cut rows width u k j small
    ∙ ap (λ x. bit_at x (7 - j % 8) ⊗ slice_index (slice_index_or rows j []) k)
    (subst (λ n. slice_index (piece n cut u) (j / 8) ≡ slice_index (piece n bitmaps (done + u)) (j / 8)) es same)
    ∙ sym (asked-is bitmaps rows width (done + u) k j small) ∙ ap (λ q. asked bitmaps rows width q j) (sym place)

-- how long a list is that is cut out of a list of pieces
pub set-size : (xs : List ℕ) (size done end count : ℕ) → done ≤ end → end ≤ count → length xs ≡ count * size
    → length (take (end * size - done * size) (drop (done * size) xs)) ≡ (end - done) * size
set-size xs size done end count le most room =
    let ends = mul-le-mul_right size most in
    let rest = length-drop (done * size) xs in
    length-take-le (end * size - done * size) (drop (done * size) xs) (omega (arith, rest, room, ends)) ∙ sym (part-size done end size le)

-- the sums of one set of bitmaps more
pub set-more : (bitmaps sums new : List ℕ) (rows : List (List ℕ)) (width done end from to count s w : ℕ) → s ≡ size_of (length rows) → w ≡ width
    → done ≤ end → end ≤ count → length sums ≡ count * width → length new ≡ length (take (end * w - done * w) (drop (done * w) sums)) → to ≤ 8 * s
    → ((p : ℕ) → p < (end - done) * width → slice_index new p ≡ run_sum (asked (slice_range bitmaps (done * s) (end * s)) rows width p) from to)
    → ((p : ℕ) → p < done * width → slice_index sums p ≡ run_sum (asked bitmaps rows width p) from to)
    → (p : ℕ) → p < end * width
    → slice_index (put_mid (done * w) (end * w - done * w) sums new) p ≡ run_sum (asked bitmaps rows width p) from to
set-more bitmaps sums new rows width done end from to count s w es ew le most room long within more before p l =
    let begins = mul-le-mul_right width le in
    let ends = mul-le-mul_right width most in
    let whole : length new ≡ (end - done) * width =
    long ∙ ap (λ w. length (take (end * w - done * w) (drop (done * w) sums))) ew ∙ set-size sums width done end count le most room in
    let size = part-size done end width le in
    ap (λ w. slice_index (put_mid (done * w) (end * w - done * w) sums new) p) ew
    ∙ elim (cases_lt p (done * width)) [
      | inl low ↦ put-below (done * width) (end * width - done * width) sums new p (omega (arith, room, begins, ends)) low ∙ before p low
      | inr high ↦
          let there : done * width + (p - done * width) ≡ p = omega (arith, high) in
          let less : p - done * width < (end - done) * width = omega (arith, size, l, high) in
          ap (slice_index (put_mid (done * width) (end * width - done * width) sums new)) (sym there)
          ∙ put-at (done * width) (end * width - done * width) sums new (p - done * width) (omega (arith, room, begins, ends)) (omega (arith, whole, less))
          ∙ more (p - done * width) less
          ∙ run-same _ (asked bitmaps rows width (done * width + (p - done * width))) from to
          (λ j a b. asked-part bitmaps rows width done end s (p - done * width) j es le less (omega (arith, b, within)))
          ∙ ap (λ q. run_sum (asked bitmaps rows width q) from to) there
    ]
