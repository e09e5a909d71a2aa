-- Bytes that are taken from each sixteen.
use Rattle.std.proofs.Common.{◌≡◌, ◌⊎◌, ℕ, ◌+◌, ◌≤◌, ◌++◌, map, ◌*◌, ◌/◌, ◌%◌, ◌<◌, List, length, get_or, ◌||◌, sym, ap, ◌∙◌, inl, inr, arith, zero-add, zero-mul, one-mul, subst, w8}
use Rattle.std.specs.Prelude.{ltb, leb, T, cond}
use Rattle.std.specs.List.{range_with_len}
use Rattle.std.specs.Simd.Lanes.{chunk}
use Rattle.std.proofs.lemmas.Bool.{cases_lt, lt-ltb, lt-leb}
use Rattle.std.proofs.lemmas.List.{get_or_append_left, get_or-append_right}
use Rattle.std.proofs.lemmas.List.FromFn.{length-map-range_with_len, get_or-map-range_with_len}
use Rattle.std.proofs.lemmas.Simd.{Each1-from_get_or, SwzOk, SwzOk-from_Each1, swz_l, length-swz_l, get_or-swz_l, length-chunk, get_or-chunk}
use Rattle.gf256.specs.Rows.{AreLanes}
use Rattle.shamir_share.specs.Lanes.{taken, MayTake}
use Rattle.shamir_share.proofs.LaneParts.{lanes-are}

-- a swizzle may take these
may_take : (p : ℕ) → (p < 16) ⊎ (p ≡ 128) → T (leb 128 p || ltb p 16)
may_take p (inl l) = subst (λ b. T (b || ltb p 16)) (sym (lt-leb 128 p (omega (arith, l)))) (subst T (sym (lt-ltb p 16 l)) tt)
may_take p (inr e) = subst (λ q. T (leb 128 q || ltb q 16)) (sym e) tt

module _ (n : ℕ) (js places : List ℕ) (long : length js ≡ n) (same : (k : ℕ) → k < n → get_or js k 0 ≡ get_or places (k % 16) 0) (may : MayTake places) where
  pub places_ok : (blocks : ℕ) → blocks * 16 ≡ n → SwzOk w8 16 n 0 js
  places_ok blocks e =
      SwzOk-from_Each1 w8 16 blocks n 0 js (sym e) (omega (arith, long))
      (Each1-from_get_or (λ j. T (leb 128 j || ltb j 16)) js 0 (λ k l.
      let i : k % 16 < 16 = omega arith in
      subst (λ p. T (leb 128 p || ltb p 16)) (sym (same k (omega (arith, l, long)))) (may_take (get_or places (k % 16) 0) (may (k % 16) i))))

  pub swizzled : (loaded rows : List ℕ) (at apart : ℕ) → ((k p : ℕ) → k < n → p < 16 → get_or loaded (16 * (k / 16) + p) 0 ≡ get_or rows (k / 16 * apart + at + p) 0)
      → AreLanes n (swz_l w8 16 loaded 0 js) (λ k. taken rows (k / 16 * apart + at) (get_or places (k % 16) 0)) 0
  swizzled loaded rows at apart is =
      lanes-are n (swz_l w8 16 loaded 0 js) _ (length-swz_l w8 16 loaded 0 js ∙ long) (λ k l.
      let i : k % 16 < 16 = omega arith in
      let place = get_or places (k % 16) 0 in
      let base = k / 16 * apart + at in
      let read : ℕ → ℕ = λ p. cond (leb 128 p) 0 (get_or loaded (16 * ((0 + k) / 16) + p) 0) in
      get_or-swz_l w8 16 loaded 0 js k (omega (arith, l, long)) ∙ ap read (same k l)
      ∙ elim (may (k % 16) i) [
        | inl m ↦
            ap (λ b. cond b 0 (get_or loaded (16 * ((0 + k) / 16) + place) 0)) (lt-leb 128 place (omega (arith, m)))
            ∙ ap (λ z. get_or loaded (16 * (z / 16) + place) 0) (zero-add k) ∙ is k place l m
            ∙ ap (λ b. cond b 0 (get_or rows (base + place) 0)) (sym (lt-leb 128 place (omega (arith, m))))
        | inr e ↦ ap read e ∙ sym (ap (taken rows base) e)
      ])

-- 16 places twice
abbrev pub twice : List ℕ → List ℕ
twice places = map (λ i. get_or (places ++ places) (i % 16) 0) (range_with_len 0 32)

pub length-twice : (places : List ℕ) → length (twice places) ≡ 32
length-twice places = length-map-range_with_len (λ i. get_or (places ++ places) (i % 16) 0) 0 32

pub twice_at : (places : List ℕ) → length places ≡ 16 → (k : ℕ) → k < 32 → get_or (twice places) k 0 ≡ get_or places (k % 16) 0
twice_at places long k l =
    get_or-map-range_with_len (λ i. get_or (places ++ places) (i % 16) 0) 0 32 k k 0 l (zero-add k)
    ∙ get_or_append_left places places 0 (k % 16) (omega (arith, long))

-- 16 bytes from one place and 16 from another
abbrev pub both : List ℕ → List ℕ → List ℕ
both first second = map (λ i. get_or (first ++ second) i 0) (range_with_len 0 32)

pub both_at : (rows : List ℕ) (at apart k p : ℕ) → apart + at + 16 ≤ length rows → k < 32 → p < 16
    → get_or (both (chunk at 16 rows) (chunk (at + apart) 16 rows)) (16 * (k / 16) + p) 0 ≡ get_or rows (k / 16 * apart + at + p) 0
both_at rows at apart k p room l m =
    let first = chunk at 16 rows in
    let second = chunk (at + apart) 16 rows in
    let j = 16 * (k / 16) + p in
    let size : length first ≡ 16 = length-chunk at 16 rows (omega (arith, room)) in
    get_or-map-range_with_len (λ i. get_or (first ++ second) i 0) 0 32 j j 0 (omega (arith, l, m)) (zero-add j)
    ∙ elim (cases_lt k 16) [
      | inl low ↦
          let none : k / 16 ≡ 0 = omega (arith, low) in
          get_or_append_left first second 0 j (omega (arith, size, none, m)) ∙ ap (λ i. get_or first i 0) (omega (arith, none))
          ∙ get_or-chunk at 16 rows p 0 m ∙ ap (λ i. get_or rows i 0) (omega (arith, ap (λ q. q * apart) none, zero-mul apart))
      | inr high ↦
          let one : k / 16 ≡ 1 = omega (arith, l, high) in
          get_or-append_right first second 16 j 0 size (omega (arith, one)) ∙ ap (λ i. get_or second i 0) (omega (arith, one))
          ∙ get_or-chunk (at + apart) 16 rows p 0 m ∙ ap (λ i. get_or rows i 0) (omega (arith, ap (λ q. q * apart) one, one-mul apart))
    ]
