-- Rows that wait for others of the same pattern, and eight that are added.
use Rattle.std.proofs.Common.{◌≡◌, ℕ, zero, suc, ◌+◌, ◌-◌, ◌*◌, ◌≤◌, ◌<◌, ◌≢◌, List, length, replicate, slice_index, slice_index_or, slice_set, take, drop, refl, sym, ap, ap₂, subst, ◌∙◌, arith, inl, inr, add-one}
use borrow.Rule.Slice.PartMut.{put_mid}
use Rattle.std.specs.Int.{bit_at}
use Rattle.std.proofs.lemmas.Bool.{cases_lt}
use Rattle.std.proofs.lemmas.Bool.Decides.{eqb_tells}
use Rattle.std.proofs.lemmas.Nat.Bits.{bit_at-lt, bit_at-zero}
use Rattle.std.proofs.lemmas.List.{get_or-set_same, get_or-set_other}
use Rattle.std.proofs.Math.Nat.{mul-le-mul_right}
use Rattle.gf256.specs.Field.{◌⊕◌}
use Rattle.gf256.specs.Sums.{sum_to}
use Rattle.gf256.proofs.Xor.{sums, zero_add, add_zero, mul_bit_add}
use Rattle.gf256.proofs.Sums.{sum_to-same, sum_to-zero}
use Rattle.row_workers.proofs.Workers.{at-range}
use Rattle.row_workers.proofs.PieceSums.{put-below, put-at, put-above}
use Rattle.xor_answers.specs.Waiting.{column, no_rows, few_sum, from_waiting, waiting_at, AreRows}
use Rattle.xor_answers.specs.declared.gather.UpToSeven.{UpToSeven}
use Rattle.xor_answers.proofs.PatternSums.{changed, own-size}

-- others that wait in place of those of one pattern
pub waiting-set : (rows : List (List ℕ)) (waiting : List UpToSeven) (i c p x : ℕ) (few : UpToSeven) → p < 256 → p < length waiting
    → few_sum rows c few ≡ few_sum rows c (slice_index_or waiting p no_rows) ⊕ x
    → waiting_at rows (slice_set waiting p few) i c ≡ waiting_at rows waiting i c ⊕ bit_at p i * x
unfolding waiting_at from_waiting
waiting-set rows waiting i c p x few small inside is =
    changed (from_waiting rows waiting i c) (from_waiting rows (slice_set waiting p few) i c) 256 p (bit_at p i * x) small
    (λ q other. ap (λ z. bit_at q i * few_sum rows c z) (get_or-set_other waiting p q few no_rows other))
    (ap (λ z. bit_at p i * few_sum rows c z) (get_or-set_same waiting p few no_rows inside)
    ∙ ap (λ s. bit_at p i * s) is
    ∙ mul_bit_add (bit_at p i) (few_sum rows c (slice_index_or waiting p no_rows)) x (bit_at-lt p i))

-- in a table of the same ones each has their number
pub same-count : (n p : ℕ) (few : UpToSeven) → few.count ≡ 0 → (slice_index_or (replicate n few) p no_rows).count ≡ 0
same-count zero p few none = refl
same-count (suc n) zero few none = none
same-count (suc n) (suc p) few none = same-count n p few none

-- none give nothing
pub none-sum : (rows : List (List ℕ)) (c : ℕ) (few : UpToSeven) → few.count ≡ 0 → few_sum rows c few ≡ 0
unfolding few_sum sum_to
none-sum rows c few none = ap (sum_to (λ i. column rows c (slice_index few.rows i))) none

-- nor do they for any pattern
pub waiting-none : (rows : List (List ℕ)) (waiting : List UpToSeven) (i c : ℕ) → ((p : ℕ) → (slice_index_or waiting p no_rows).count ≡ 0)
    → waiting_at rows waiting i c ≡ 0
unfolding waiting_at from_waiting
waiting-none rows waiting i c none =
    sum_to-zero (from_waiting rows waiting i c) 256
    (λ p l. ap (λ s. bit_at p i * s) (none-sum rows c (slice_index_or waiting p no_rows) (none p))
    ∙ (let e : bit_at p i * 0 ≡ 0 = omega arith in e))

-- and they are rows
pub none-are : (m : ℕ) (few : UpToSeven) → few.count ≡ 0 → AreRows m few
none-are m few none = record {
  most = omega (arith, none);
  rows = λ i l. absurd (omega (arith, l, none));
}

-- those of a pattern are rows, once others wait in place of those of one
pub are-set : (m : ℕ) (waiting : List UpToSeven) (p : ℕ) (few : UpToSeven) → p < length waiting → AreRows m few
    → ((q : ℕ) → q < 256 → AreRows m (slice_index_or waiting q no_rows))
    → (q : ℕ) → q < 256 → AreRows m (slice_index_or (slice_set waiting p few) q no_rows)
are-set m waiting p few inside are before q l =
    elim (eqb_tells p q) [
      | inl here ↦
          subst (AreRows m) (sym (ap (λ q. slice_index_or (slice_set waiting p few) q no_rows) (sym here.1) ∙ get_or-set_same waiting p few no_rows inside)) are
      | inr other ↦ subst (AreRows m) (sym (get_or-set_other waiting p q few no_rows (λ same. other.1 (sym same)))) (before q l)
    ]

-- one that waits with others
pub joined : (x w w' t : ℕ) → w' ≡ w ⊕ t → x ⊕ w' ≡ x ⊕ w ⊕ t
joined x w w' t is = ap (◌⊕◌ x) is ∙ plain where
  plain : x ⊕ (w ⊕ t) ≡ x ⊕ w ⊕ t
  plain = simp sums

-- one more of them
pub sum-with : (rows : List (List ℕ)) (numbers : List ℕ) (n j c : ℕ) → n < length numbers
    → sum_to (λ i. column rows c (slice_index (slice_set numbers n j) i)) (n + 1)
    ≡ sum_to (λ i. column rows c (slice_index numbers i)) n ⊕ column rows c j
unfolding sum_to
sum-with rows numbers n j c inside =
    ap (sum_to (λ i. column rows c (slice_index (slice_set numbers n j) i))) (add-one n)
    ∙ ap₂ ◌⊕◌
    (sum_to-same (λ i. column rows c (slice_index (slice_set numbers n j) i)) (λ i. column rows c (slice_index numbers i)) n
    (λ i l. ap (column rows c) (get_or-set_other numbers n i j 0 (λ same. omega (arith, same, l)))))
    (ap (column rows c) (get_or-set_same numbers n j 0 inside))

-- of which each is a row
pub row-with : (numbers : List ℕ) (n j m : ℕ) → n < length numbers → j < m → ((i : ℕ) → i < n → slice_index numbers i < m)
    → (i : ℕ) → i < n + 1 → slice_index (slice_set numbers n j) i < m
row-with numbers n j m inside small before i l =
    elim (cases_lt i n) [
      | inl low ↦
          let is = get_or-set_other numbers n i j 0 (λ same. omega (arith, same, low)) in
          subst (λ x. x < m) (sym is) (before i low)
      | inr high ↦
          let same : n ≡ i = omega (arith, l, high) in
          subst (λ x. x < m) (sym (ap (slice_index (slice_set numbers n j)) (sym same) ∙ get_or-set_same numbers n j 0 inside)) small
    ]

-- the sum of seven
pub seven : (f : ℕ → ℕ) → sum_to f 7 ≡ f 0 ⊕ f 1 ⊕ f 2 ⊕ f 3 ⊕ f 4 ⊕ f 5 ⊕ f 6
unfolding sum_to
seven f = ap (λ s. s ⊕ f 1 ⊕ f 2 ⊕ f 3 ⊕ f 4 ⊕ f 5 ⊕ f 6) (zero_add (f 0))

-- eight, by fours or one by one
pub eight : (a b c d e f g h : ℕ) → a ⊕ b ⊕ c ⊕ d ⊕ (e ⊕ f ⊕ g ⊕ h) ≡ a ⊕ b ⊕ c ⊕ d ⊕ e ⊕ f ⊕ g ⊕ h
eight a b c d e f g h = simp sums

-- eight that are added, of which seven have waited
pub eight-gone : (x' x w w' b s t : ℕ) → b < 2 → x' ≡ x ⊕ b * (s ⊕ t) → w' ≡ w ⊕ b * s → x' ⊕ w' ≡ x ⊕ w ⊕ b * t
eight-gone x' x w w' b s t small added gone =
    ap₂ ◌⊕◌ (added ∙ ap (◌⊕◌ x) (mul_bit_add b s t small)) gone ∙ plain x w (b * s) (b * t) where
      plain : (x w y z : ℕ) → x ⊕ (y ⊕ z) ⊕ (w ⊕ y) ≡ x ⊕ w ⊕ z
      plain x w y z = simp sums

-- a row is added to those of the first m of n bitmaps that the pattern p has a bit for
pub record IsGiven (sums old row : List ℕ) (w n p m : ℕ) : Type 0 where
  pub done : (u k : ℕ) → u < m → k < w → slice_index sums (u * w + k) ≡ slice_index old (u * w + k) ⊕ bit_at p (n - 1 - u) * slice_index row k
  pub rest : (u k : ℕ) → m ≤ u → k < w → slice_index sums (u * w + k) ≡ slice_index old (u * w + k)

-- to one more, whose bit it has
pub given-then : (sums old new row : List ℕ) (w n p m : ℕ) → m < n → length sums ≡ n * w
    → length new ≡ length (take ((m + 1) * w - m * w) (drop (m * w) sums))
    → ((k : ℕ) → slice_index new k ≡ slice_index (take ((m + 1) * w - m * w) (drop (m * w) sums)) k ⊕ slice_index row k)
    → bit_at p (n - 1 - m) ≡ 1 → IsGiven sums old row w n p m
    → IsGiven (put_mid (m * w) ((m + 1) * w - m * w) sums new) old row w n p (m + 1)
given-then sums old new row w n p m few room long is bit before =
    let at = m * w in
    let len = (m + 1) * w - m * w in
    let next : (m + 1) * w ≡ m * w + w = grind arith in
    let most = mul-le-mul_right w (let s : m + 1 ≤ n = omega (arith, few) in s) in
    let size : length new ≡ w = long ∙ own-size sums w n m few room in
    let fits : at ≤ length sums = omega (arith, most, next, room) in
    let below : (u k : ℕ) → u < m → k < w → slice_index (put_mid at len sums new) (u * w + k) ≡ slice_index sums (u * w + k) =
    λ u k l h.
    let under = mul-le-mul_right w (let s : u + 1 ≤ m = omega (arith, l) in s) in
    let after : (u + 1) * w ≡ u * w + w = grind arith in
    put-below at len sums new (u * w + k) fits (omega (arith, under, after, h)) in
    let own : (k : ℕ) → k < w → slice_index (put_mid at len sums new) (m * w + k) ≡ slice_index sums (m * w + k) ⊕ slice_index row k =
    λ k h.
    put-at at len sums new k fits (omega (arith, size, h)) ∙ is k
    ∙ ap (λ x. x ⊕ slice_index row k) (at-range sums at len k (omega (arith, next, h))) in
    record {
      done = λ u k l h.
          elim (cases_lt u m) [
            | inl low ↦ below u k low h ∙ before.done u k low h
            | inr high ↦
                let same : m ≡ u = omega (arith, l, high) in
                let once : slice_index row k ≡ 1 * slice_index row k = omega arith in
                ap (λ v. slice_index (put_mid at len sums new) (v * w + k)) (sym same) ∙ own k h
                ∙ ap₂ ◌⊕◌ (before.rest m k (omega arith) h) (once ∙ ap (λ b. b * slice_index row k) (sym bit))
                ∙ ap (λ v. slice_index old (v * w + k) ⊕ bit_at p (n - 1 - v) * slice_index row k) same
          ];
      rest = λ u k l h.
          let over = mul-le-mul_right w l in
          put-above at len sums new (u * w + k) fits (omega (arith, size, next)) (omega (arith, over, next)) ∙ before.rest u k (omega (arith, l)) h;
    }

-- or to none, where it doesn't have this bit
pub given-else : (sums old row : List ℕ) (w n p m : ℕ) → bit_at p (n - 1 - m) ≢ 1 → IsGiven sums old row w n p m
    → IsGiven sums old row w n p (m + 1)
given-else sums old row w n p m other before =
    let small = bit_at-lt p (n - 1 - m) in
    let bit : bit_at p (n - 1 - m) ≡ 0 = omega (arith, small, other) in
    record {
      done = λ u k l h.
          elim (cases_lt u m) [
            | inl low ↦ before.done u k low h
            | inr high ↦
                let same : m ≡ u = omega (arith, l, high) in
                let none : 0 * slice_index row k ≡ 0 = omega arith in
                before.rest u k high h ∙ sym (add_zero (slice_index old (u * w + k)))
                ∙ ap (◌⊕◌ (slice_index old (u * w + k))) (sym (ap (λ b. b * slice_index row k) (ap (λ v. bit_at p (n - 1 - v)) (sym same) ∙ bit) ∙ none))
          ];
      rest = λ u k l h. before.rest u k (omega (arith, l)) h;
    }

-- one place more of a list that is filled from its beginning on
pub put-more : (sum : List ℕ) (g : ℕ → ℕ) (i x : ℕ) → i < length sum → x ≡ g i → ((k : ℕ) → k < i → slice_index sum k ≡ g k)
    → (k : ℕ) → k < i + 1 → slice_index (slice_set sum i x) k ≡ g k
put-more sum g i x inside is before k l =
    elim (cases_lt k i) [
      | inl low ↦ get_or-set_other sum i k x 0 (λ same. omega (arith, same, low)) ∙ before k low
      | inr high ↦
          let same : i ≡ k = omega (arith, l, high) in
          ap (slice_index (slice_set sum i x)) (sym same) ∙ get_or-set_same sum i x 0 inside ∙ is ∙ ap g same
    ]

-- a row that no bitmap asks for
pub none-asked : (x w p i t : ℕ) → p ≡ 0 → x ⊕ w ≡ x ⊕ w ⊕ bit_at p i * t
none-asked x w p i t none =
    let nothing : 0 * t ≡ 0 = omega arith in
    sym (ap (λ b. x ⊕ w ⊕ b * t) (ap (λ q. bit_at q i) none ∙ bit_at-zero i) ∙ ap (◌⊕◌ (x ⊕ w)) nothing ∙ add_zero (x ⊕ w))
