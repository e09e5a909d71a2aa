-- Where the coins of rows stand.
use Rattle.std.proofs.Common.{◌≡◌, ◌⊎◌, ℕ, ◌+◌, ◌-◌, ◌*◌, ◌/◌, ◌%◌, ◌<◌, ◌≤◌, List, get_or, true, nat_eq, eqb-true, min, refl, sym, ap, ap₂, ◌∙◌, inl, inr, arith, zero-add, zero-mul, take, drop, subst}
use Rattle.std.specs.Prelude.{cond, if◌then◌else◌}
use Rattle.std.specs.Simd.Lanes.{chunk}
use Rattle.std.proofs.Math.Nat.{add-mul, mul_assoc, mul_left_comm, mul-le-mul_left, min-eq_left, min-le_right}
use Rattle.std.proofs.lemmas.Bool.{cases_lt, lt-ltb, le-ltb, lt-leb}
use Rattle.std.proofs.lemmas.List.{get_or_past, get_or-take, get_or-drop, length-take}
use Rattle.std.proofs.lemmas.Simd.{length-chunk, get_or-chunk}
use Rattle.gf256.specs.Rows.{AreLanes}
use Rattle.gf256.proofs.Below.{all_below, all_below-at}
use Rattle.shamir_share.specs.Query.{row_coins}
use Rattle.shamir_share.specs.Lanes.{IsWidth, place, sorted_place, even_first, spread_even_first, taken, padded, AreCells, MayTake}
use Rattle.shamir_share.specs.declared.places.TheConstants.{PLACES}
use Rattle.gf256.proofs.FlatRows.{row_within}
use Rattle.shamir_share.proofs.Rows.{coin_at, length-row_coins}

-- the table holds the places of a width, from this row on
abbrev Holds : ℕ → ℕ → Type 0
Holds width size = all_below (λ p. nat_eq (get_or PLACES ((width - 2) * 16 + p) 0) (sorted_place width (p / 16 + 1) (p % 16))) size ≡ true

-- those of the width 2
holds_2 : Holds 2 32
unfolding all_below
holds_2 = refl

-- of the width 4
holds_4 : Holds 4 64
unfolding all_below
holds_4 = refl

-- of the width 8
holds_8 : Holds 8 128
unfolding all_below
holds_8 = refl

-- and of the width 16
holds_16 : Holds 16 256
unfolding all_below
holds_16 = refl

-- the places of n coins
row_of : (width n size : ℕ) → Holds width size → size ≡ width * 16 → 2 ≤ width → width ≤ 16 → 1 ≤ n → n ≤ width
    → AreLanes 16 (chunk ((width + n - 3) * 16) 16 PLACES) (sorted_place width n) 0
row_of width n size holds is least most some few = record {
  size = length-chunk ((width + n - 3) * 16) 16 PLACES (omega (arith, few, most, least, some));
  each = λ k l.
      let p = (n - 1) * 16 + k in
      let q : p / 16 + 1 ≡ n = omega (arith, some, l) in
      let r : p % 16 ≡ k = omega (arith, some, l) in
      let place_is : (width + n - 3) * 16 + k ≡ (width - 2) * 16 + p = omega (arith, least, some) in
      get_or-chunk ((width + n - 3) * 16) 16 PLACES k 0 l ∙ ap (λ i. get_or PLACES i 0) place_is
      ∙ eqb-true _ _ (all_below-at (λ p. nat_eq (get_or PLACES ((width - 2) * 16 + p) 0) (sorted_place width (p / 16 + 1) (p % 16))) size p holds (omega (arith, is, l, few, some)))
      ∙ ap₂ (sorted_place width) q (r ∙ sym (zero-add k));
}

-- the same for each width
pub places_are : (width n : ℕ) → IsWidth width → 1 ≤ n → n ≤ width → AreLanes 16 (chunk ((width + n - 3) * 16) 16 PLACES) (sorted_place width n) 0
places_are width n (inl e) some few = row_of width n 32 (subst (λ w. Holds w 32) (sym e) holds_2) (omega (arith, e)) (omega (arith, e)) (omega (arith, e)) some few
places_are width n (inr (inl e)) some few = row_of width n 64 (subst (λ w. Holds w 64) (sym e) holds_4) (omega (arith, e)) (omega (arith, e)) (omega (arith, e)) some few
places_are width n (inr (inr (inl e))) some few = row_of width n 128 (subst (λ w. Holds w 128) (sym e) holds_8) (omega (arith, e)) (omega (arith, e)) (omega (arith, e)) some few
places_are width n (inr (inr (inr e))) some few = row_of width n 256 (subst (λ w. Holds w 256) (sym e) holds_16) (omega (arith, e)) (omega (arith, e)) (omega (arith, e)) some few

-- where lane k of the sixteen with number u stands, of those of q sixteens of rows further on
record Stands (width u k q : ℕ) : Type 0 where
  whole : k / width * width + k % width ≡ k
  below : k % width < width
  row : (q * (16 * width) + 16 * u + k) / width ≡ 16 * q + (u * (16 / width) + k / width)
  column : (q * (16 * width) + 16 * u + k) % width ≡ k % width
  few : u * (16 / width) + k / width < 16

-- so it stands, for each width
stands : (width u k q : ℕ) → IsWidth width → u + 1 ≤ width → k < 16 → Stands width u k q
stands width u k q (inl e) lu l =
    subst (λ w. Stands w u k q) (sym e) (let m : u + 1 ≤ 2 = omega (arith, lu, e) in
    record { whole = omega arith; below = omega arith; row = omega arith; column = omega arith; few = omega (arith, m, l) })
stands width u k q (inr (inl e)) lu l =
    subst (λ w. Stands w u k q) (sym e) (let m : u + 1 ≤ 4 = omega (arith, lu, e) in
    record { whole = omega arith; below = omega arith; row = omega arith; column = omega arith; few = omega (arith, m, l) })
stands width u k q (inr (inr (inl e))) lu l =
    subst (λ w. Stands w u k q) (sym e) (let m : u + 1 ≤ 8 = omega (arith, lu, e) in
    record { whole = omega arith; below = omega arith; row = omega arith; column = omega arith; few = omega (arith, m, l) })
stands width u k q (inr (inr (inr e))) lu l =
    subst (λ w. Stands w u k q) (sym e) (let m : u + 1 ≤ 16 = omega (arith, lu, e) in
    record { whole = omega arith; below = omega arith; row = omega arith; column = omega arith; few = omega (arith, m, l) })

-- a coin has a place among 16, and where there is none it is 128
place_of_coin : (width n k : ℕ) → k % width < n → place width n k ≡ k / width * n + k % width
place_of_coin width n k l = ap (λ b. if b then k / width * n + k % width else 128) (lt-ltb (k % width) n l)

-- which is where there is none
place_of_none : (width n k : ℕ) → n ≤ k % width → place width n k ≡ 128
place_of_none width n k h = ap (λ b. if b then k / width * n + k % width else 128) (le-ltb (k % width) n h)

-- its place is among the first 16
place_below : (width n k : ℕ) → n ≤ width → k / width * width + k % width ≡ k → k < 16 → k / width * n + k % width < 16
place_below width n k few whole l = let h = mul-le-mul_left (k / width) few in omega (arith, h, whole, l)

-- each place is one of these
place_may : (width n k : ℕ) → IsWidth width → n ≤ width → k < 16 → (place width n k < 16) ⊎ (place width n k ≡ 128)
place_may width n k is few l =
    elim (cases_lt (k % width) n) [
      | inl h ↦ inl (let e = place_of_coin width n k h in let b = place_below width n k few (stands width 0 k 0 is (width_some width is) l).whole l in omega (arith, e, b))
      | inr h ↦ inr (place_of_none width n k h)
    ]
  where
    width_some : (width : ℕ) → IsWidth width → 0 + 1 ≤ width
    width_some width (inl e) = omega (arith, e)
    width_some width (inr (inl e)) = omega (arith, e)
    width_some width (inr (inr (inl e))) = omega (arith, e)
    width_some width (inr (inr (inr e))) = omega (arith, e)

module _ (n : ℕ) (rows : List ℕ) (t from width apart : ℕ) (places : List ℕ) (is : AreCells n rows t from width apart places) where
  abbrev coins : ℕ
  coins = min (t - from) width

  coins_few : coins ≤ width
  coins_few = min-le_right (t - from) width

  sorted_is : (i : ℕ) → i < 16 → get_or places i 0 ≡ place width coins (even_first i)
  sorted_is i m = is.sorted.each i m ∙ ap (sorted_place width coins) (zero-add i)

  pub may_take : MayTake places
  may_take i m =
      subst (λ p. (p < 16) ⊎ (p ≡ 128)) (sym (sorted_is i m)) (place_may width coins (even_first i) is.fills coins_few (omega (arith, m)))

  -- narrow rows are whole, and of wide ones the sixteen lanes are in one row
  same_rows : (k : ℕ) → k < 16 → k / width * coins ≡ k / width * t
  same_rows k l =
      elim is.shape [
        | inl e ↦ let none : k / width ≡ 0 = ap (λ w. k / w) e ∙ omega arith in ap (λ q. q * coins) none ∙ zero-mul coins ∙ sym (ap (λ q. q * t) none ∙ zero-mul t)
        | inr h ↦ ap (λ n. k / width * n) (let whole : t - from ≤ width = omega (arith, h.0, h.1) in min-eq_left whole ∙ omega (arith, h.0))
      ]

  module _ (u : ℕ) (lu : u + 1 ≤ width) where
    pub unit_lane : (k : ℕ) → k < n
        → taken rows (k / 16 * (16 * t) + (u * apart + from)) (get_or places (k % 16) 0) ≡ padded rows t from width (spread_even_first (16 * u) (16 * width) k)
    unit_lane k l =
        let q = k / 16 in
        let i = k % 16 in
        let m : i < 16 = omega arith in
        let z = even_first i in
        let lz : z < 16 = omega (arith, m) in
        let s = stands width u z q is.fills lu lz in
        let r = u * (16 / width) + z / width in
        let e = z % width in
        let base = q * (16 * t) + (u * apart + from) in
        let below : 16 * q + r < n = omega (arith, l, is.lanes.1, s.few) in
        let fit = row_within (16 * q + r) n t below in
        let long = length-row_coins rows t (16 * q + r) (omega (arith, fit, is.whole)) in
        let back = ap₂ (λ y j. get_or (row_coins rows t y) (from + j) 0) (sym s.row) (sym s.column) in
        ap (taken rows base) (sorted_is i m)
        ∙ elim (cases_lt e coins) [
          | inl h ↦
              let p = z / width * coins + e in
              let small : p < 16 = place_below width coins z coins_few s.whole lz in
              let place_is : base + p ≡ (16 * q + r) * t + (from + e) =
              omega (arith, ap (λ x. u * x) is.steps, mul_assoc u (16 / width) t, add-mul (16 * q) r t, add-mul (u * (16 / width)) (z / width) t, mul_assoc 16 q t, mul_left_comm q 16 t, same_rows z lz) in
              ap (taken rows base) (place_of_coin width coins z h)
              ∙ ap (λ b. cond b 0 (get_or rows (base + p) 0)) (lt-leb 128 p (omega (arith, small)))
              ∙ ap (λ y. get_or rows y 0) place_is
              ∙ sym (coin_at rows t (16 * q + r) (from + e) (omega (arith, h))) ∙ back
          | inr h ↦
              ap (taken rows base) (place_of_none width coins z h)
              ∙ sym (get_or_past (row_coins rows t (16 * q + r)) (from + e) 0 (omega (arith, h, long, s.below))) ∙ back
        ]

-- each lane is a byte
pub padded-lt : (rows : List ℕ) (t from width : ℕ) → ((i : ℕ) → get_or rows i 0 < 256) → (j : ℕ) → padded rows t from width j < 256
unfolding row_coins
padded-lt rows t from width bytes j =
    let i = from + j % width in
    let r = j / width in
    elim (cases_lt i t) [
      | inl l ↦ let e = get_or-take t (drop (r * t) rows) i 0 l ∙ get_or-drop (r * t) rows i 0 in let b = bytes (r * t + i) in omega (arith, e, b)
      | inr h ↦ let e = get_or_past (take t (drop (r * t) rows)) i 0 (omega (arith, h, length-take t (drop (r * t) rows))) in omega (arith, e)
    ]
