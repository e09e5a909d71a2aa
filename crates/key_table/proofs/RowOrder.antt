-- The row of a digest never falls as digests ascend.
use Rattle.std.proofs.Common.{◌≡◌, ℕ, zero, suc, ◌+◌, ◌*◌, ◌^◌, ◌<◌, ◌≤◌, List, [], ◌∷◌, length, get_or, drop, map, All, refl, ap, ◌∙◌, arith, true≢false, Ordering, Less, Equal, Greater, nat_cmp, le_trans, mul-le-mul_right, div-mul-le_self, pow-suc}
use Rattle.std.specs.Cmp.Lexicographic.{slice_cmp}
use Rattle.std.specs.List.{AllByRecursion}
use Rattle.std.specs.List.Sorted.{IsStrictlySortedBy}
use Rattle.std.specs.Ordering.{is_gt, ordering_then}
use Rattle.std.proofs.lemmas.Cmp.{ranked}
use Rattle.std.proofs.lemmas.List.{drop_more}
use Rattle.std.proofs.lemmas.List.Elements.{All-head, All-tail}
use Rattle.std.proofs.lemmas.Nat.{le-div, pow_pos}
use Rattle.key_table.specs.Digest.{number_of, row_of}
use Rattle.key_table.specs.Entry.{Pair, AreBytes}
use Rattle.key_table.specs.KeyList.{Ascend}
use Rattle.key_table.specs.Counting.{NeverFall, row_at}
use Rattle.key_table.specs.Sorting.{AreAscending, Sorted}

-- the number that the first n bytes spell, highest first
abbrev spelled : ℕ → List ℕ → ℕ
spelled zero bs = 0
spelled (suc n) [] = 0
spelled (suc n) (b ∷ bs) = b * 256 ^ n + spelled n bs

-- a digit and what is below its place are below the next place
digit_below : (b m k : ℕ) → b < 256 → m < k → b * k + m < k * 256
digit_below b m k small low =
    let most : b * k ≤ 255 * k = mul-le-mul_right k (omega (arith, small)) in
    omega (arith, most, low)

-- a number with a lesser digit is less, whatever stands behind it
digit_less : (x y m o k : ℕ) → x < y → m < k → x * k + m ≤ y * k + o
digit_less x y m o k lt low =
    let more : (x + 1) * k ≤ y * k = mul-le-mul_right k (omega (arith, lt)) in
    omega (arith, more, low)

-- n bytes spell a number below 256 ^ n
spelled_below : (n : ℕ) (bs : List ℕ) → AreBytes bs → spelled n bs < 256 ^ n
spelled_below zero bs h = omega arith
spelled_below (suc n) [] h = omega (arith, pow-suc 256 n, spelled_below n [] h)
spelled_below (suc n) (b ∷ bs) h =
    let rest = spelled_below n bs (λ i. h (suc i)) in
    omega (arith, pow-suc 256 n, digit_below b (spelled n bs) (256 ^ n) (h 0) rest)

-- what a lesser text spells isn't more
spelled_rises : (n : ℕ) (a b : List ℕ) → AreBytes a → n ≤ length a → n ≤ length b → slice_cmp nat_cmp a b ≡ Less → spelled n a ≤ spelled n b
spelled_rises zero a b ha la lb lt = omega arith
spelled_rises (suc n) [] b ha la lb lt = absurd (omega (arith, la))
spelled_rises (suc n) (x ∷ a) [] ha la lb lt = absurd (omega (arith, lb))
spelled_rises (suc n) (x ∷ a) (y ∷ b) ha la lb lt =
    by (nat_cmp x y) refl lt
    (λ less. digit_less x y (spelled n a) (spelled n b) (256 ^ n) less (spelled_below n a (λ i. ha (suc i))))
    (λ same below. omega (arith, ap (λ d. d * 256 ^ n) same, spelled_rises n a b (λ i. ha (suc i)) (omega (arith, la)) (omega (arith, lb)) below))
  where
    by : (o : Ordering) → o ≡ nat_cmp x y → ordering_then o (slice_cmp nat_cmp a b) ≡ Less
        → (x < y → x * 256 ^ n + spelled n a ≤ y * 256 ^ n + spelled n b)
        → (x ≡ y → slice_cmp nat_cmp a b ≡ Less → x * 256 ^ n + spelled n a ≤ y * 256 ^ n + spelled n b)
        → x * 256 ^ n + spelled n a ≤ y * 256 ^ n + spelled n b
    by Less is lt less same = less (ranked x y Less is)
    by Equal is lt less same = same (ranked x y Equal is) lt
    by Greater is lt less same = absurd (true≢false (ap is_gt lt))

-- the first eight of several bytes
first_eight : (bs : List ℕ) → 8 ≤ length bs
    → bs ≡ get_or bs 0 0 ∷ get_or bs 1 0 ∷ get_or bs 2 0 ∷ get_or bs 3 0 ∷ get_or bs 4 0 ∷ get_or bs 5 0 ∷ get_or bs 6 0 ∷ get_or bs 7 0 ∷ drop 8 bs
first_eight bs long =
    drop_more bs 0 0 (omega (arith, long))
    ∙ ap (λ r. get_or bs 0 0 ∷ r) (drop_more bs 1 0 (omega (arith, long))
    ∙ ap (λ r. get_or bs 1 0 ∷ r) (drop_more bs 2 0 (omega (arith, long))
    ∙ ap (λ r. get_or bs 2 0 ∷ r) (drop_more bs 3 0 (omega (arith, long))
    ∙ ap (λ r. get_or bs 3 0 ∷ r) (drop_more bs 4 0 (omega (arith, long))
    ∙ ap (λ r. get_or bs 4 0 ∷ r) (drop_more bs 5 0 (omega (arith, long))
    ∙ ap (λ r. get_or bs 5 0 ∷ r) (drop_more bs 6 0 (omega (arith, long))
    ∙ ap (λ r. get_or bs 6 0 ∷ r) (drop_more bs 7 0 (omega (arith, long)))))))))

-- they spell its number
number_spelled : (bs : List ℕ) → 8 ≤ length bs → number_of bs ≡ spelled 8 bs
unfolding number_of
number_spelled bs long = omega (arith, ap (spelled 8) (first_eight bs long))

-- a lesser digest has no greater number
pub number_rises : (a b : List ℕ) → AreBytes a → 8 ≤ length a → 8 ≤ length b → slice_cmp nat_cmp a b ≡ Less → number_of a ≤ number_of b
number_rises a b ha la lb lt = omega (arith, number_spelled a la, number_spelled b lb, spelled_rises 8 a b ha la lb lt)

-- and no later row
row_rises : (rows : ℕ) (a b : List ℕ) → AreBytes a → 8 ≤ length a → 8 ≤ length b → slice_cmp nat_cmp a b ≡ Less → row_of rows a ≤ row_of rows b
row_rises rows a b ha la lb lt =
    let products : number_of a * rows ≤ number_of b * rows = mul-le-mul_right rows (number_rises a b ha la lb lt) in
    le-div (row_of rows a) (number_of b * rows) (2 ^ 64) (pow_pos 64) (le_trans (div-mul-le_self (number_of a * rows) (2 ^ 64)) products)

-- a pair whose digest has a number
record HasNumber (p : Pair) : Type 0 where
  bytes : AreBytes p.digest
  long : 8 ≤ length p.digest

-- the rows of pairs whose digests are above that of another are no earlier than its row
below_rows : (rows : ℕ) (p : Pair) (ps : List Pair) → HasNumber p → All HasNumber ps
    → AllByRecursion (λ z. slice_cmp nat_cmp p.digest z ≡ Less) (map (λ q. q.digest) ps) → (j : ℕ) → j < length ps → row_of rows p.digest ≤ row_at rows ps j
below_rows rows p [] hp hs below j lt = absurd (omega (arith, lt))
below_rows rows p (q ∷ qs) hp hs below zero lt =
    row_rises rows p.digest q.digest hp.bytes hp.long (All-head HasNumber q qs hs).long below.0
below_rows rows p (q ∷ qs) hp hs below (suc j) lt =
    below_rows rows p qs hp (All-tail HasNumber q qs hs) below.1 j (omega (arith, lt))

-- the rows of pairs whose digests ascend never fall
rows_rise : (rows : ℕ) (ps : List Pair) → All HasNumber ps → Ascend (map (λ p. p.digest) ps) → NeverFall rows ps
unfolding IsStrictlySortedBy
rows_rise rows [] hs up k j le lt = absurd (omega (arith, lt))
rows_rise rows (p ∷ ps) hs up zero zero le lt = omega arith
rows_rise rows (p ∷ ps) hs up zero (suc j) le lt =
    below_rows rows p ps (All-head HasNumber p ps hs) (All-tail HasNumber p ps hs) up.0 j (omega (arith, lt))
rows_rise rows (p ∷ ps) hs up (suc k) zero le lt = absurd (omega (arith, le))
rows_rise rows (p ∷ ps) hs up (suc k) (suc j) le lt =
    rows_rise rows ps (All-tail HasNumber p ps hs) up.1 k j (omega (arith, le)) (omega (arith, lt))

-- the rows of sorted entries never fall
pub never_fall : (rows : ℕ) (s : Sorted) → AreAscending s → NeverFall rows s.pairs
never_fall rows s h =
    rows_rise rows s.pairs
    (λ k d lt. record { bytes = h.bytes k d lt; long = omega (arith, (h.sizes k d lt).digest_size, h.least) })
    h.ascend
