-- Coins where a polynomial is added to one row.
use Rattle.std.proofs.Common.{◌≡◌, ◌≢◌, ℕ, zero, suc, ◌+◌, ◌-◌, ◌*◌, ◌/◌, ◌<◌, ◌≤◌, List, [], ◌∷◌, ◌++◌, length, get_or, take, drop, refl, sym, ap, ap₂, ◌∙◌, arith, inl, inr, length-drop, length-append, mul-zero}
use Rattle.std.proofs.lemmas.Bool.{cases_lt}
use Rattle.std.proofs.lemmas.List.{ext_get_or, get_or-drop, get_or-take, get_or_past, get_or_append_left, get_or-append_right, length-take-le}
use borrow.Rule.Slice.PartMut.{put_mid}
use Rattle.gf256.specs.Field.{◌⊕◌}
use Rattle.gf256.specs.Polynomial.{coef, val}
use Rattle.gf256.proofs.Xor.{add_zero}
use Rattle.uni_poly.specs.Coefficients.{IsSum}
use Rattle.uni_poly.proofs.Addition.{add_list, coef-add_list, val-add_list}
use Rattle.uni_poly.proofs.Taylor.{val-same}
use Rattle.shamir_share.specs.Query.{row_coins}
use Rattle.gf256.proofs.FlatRows.{row_within}
use Rattle.shamir_share.proofs.Rows.{coin_at, length-row_coins}
use Rattle.privacy_law.specs.Pieces.{addend}
use Rattle.privacy_law.specs.Partner.{added_to_row}
use Rattle.privacy_law.proofs.ChangedPieces.{length-added, added_at, addend_here, addend_elsewhere, addend_outside, addend_nothing, before_piece, after_piece}

-- what is added to coin e of the row
abbrev pub above : List ℕ → ℕ → ℕ
above g e = coef g (e + 1)

-- a coin of row k among r rows
added_coin : (coins : List ℕ) (t r : ℕ) (g : List ℕ) (j k e : ℕ) → length coins ≡ r * t → k < r → e < t
    → get_or (row_coins (added_to_row coins t g j) t k) e 0 ≡ get_or (row_coins coins t k) e 0 ⊕ addend (above g) t j (k * t + e)
added_coin coins t r g j k e long row l =
    let fit = row_within k r t row in
    coin_at (added_to_row coins t g j) t k e l ∙ added_at coins t j (above g) (k * t + e) (omega (arith, fit, long))
    ∙ ap (λ c. c ⊕ addend (above g) t j (k * t + e)) (sym (coin_at coins t k e l))

-- another row stays
pub row_stays : (coins : List ℕ) (t r : ℕ) (g : List ℕ) (j k : ℕ) → length coins ≡ r * t → k < r → k ≢ j → row_coins (added_to_row coins t g j) t k ≡ row_coins coins t k
row_stays coins t r g j k long row isnt =
    let fit = row_within k r t row in
    let before = length-row_coins coins t k (omega (arith, fit, long)) in
    let after = length-row_coins (added_to_row coins t g j) t k (omega (arith, fit, long, length-added coins t j (above g))) in
    ext_get_or 0 (row_coins (added_to_row coins t g j) t k) (row_coins coins t k) (after ∙ sym before) (λ e l.
    let few : e < t = omega (arith, after) in
    added_coin coins t r g j k e long row few ∙ ap (◌⊕◌ (get_or (row_coins coins t k) e 0)) (addend_elsewhere (above g) t j k e few isnt) ∙ add_zero _)

-- the row is changed by the polynomial's coefficients from 1 on
pub val-row_changed : (coins : List ℕ) (t r : ℕ) (g : List ℕ) (j a : ℕ) → length coins ≡ r * t → j < r → length g ≤ t + 1
    → val (row_coins (added_to_row coins t g j) t j) a ≡ val (row_coins coins t j) a ⊕ val (drop 1 g) a
unfolding coef
val-row_changed coins t r g j a long row few =
    let fit = row_within j r t row in
    let old = row_coins coins t j in
    let new = row_coins (added_to_row coins t g j) t j in
    let before = length-row_coins coins t j (omega (arith, fit, long)) in
    let after = length-row_coins (added_to_row coins t g j) t j (omega (arith, fit, long, length-added coins t j (above g))) in
    val-same new (add_list old (drop 1 g)) a (λ e.
    elim (cases_lt e t) [
      | inl l ↦
          added_coin coins t r g j j e long row l
          ∙ ap (◌⊕◌ (get_or old e 0)) (addend_here (above g) t j j e l refl ∙ ap (λ m. get_or g m 0) (omega arith) ∙ sym (get_or-drop 1 g e 0))
          ∙ sym (coef-add_list old (drop 1 g) e)
      | inr past ↦
          get_or_past new e 0 (omega (arith, after))
          ∙ sym (coef-add_list old (drop 1 g) e ∙ ap₂ ◌⊕◌ (get_or_past old e 0 (omega (arith, before))) (get_or_past (drop 1 g) e 0 (omega (arith, few, length-drop 1 g))) ∙ add_zero 0)
    ])
    ∙ val-add_list old (drop 1 g) a

-- with no coins a row, nothing is written and nothing changes
written_none : (coins g new : List ℕ) (t j : ℕ) → t ≡ 0 → length new ≡ t → length g ≤ t + 1
    → put_mid (j * t) t coins new ≡ added_to_row coins t g j
unfolding coef
written_none coins g [] zero j none long few =
    ap (λ m. put_mid m 0 coins []) (mul-zero j)
    ∙ sym (ext_get_or 0 (added_to_row coins 0 g j) coins (length-added coins 0 j (above g)) (λ i l.
    let within : i < length coins = omega (arith, l, length-added coins 0 j (above g)) in
    added_at coins 0 j (above g) i within
    ∙ ap (◌⊕◌ (get_or coins i 0)) (addend_nothing (above g) 0 j i (λ e. get_or_past g (e + 1) 0 (omega (arith, few))))
    ∙ add_zero _))
written_none coins g (x ∷ new) zero j none long few = absurd (omega (arith, long))
written_none coins g new (suc t) j none long few = absurd (omega (arith, none))

-- where a polynomial was added to the slice of row j, which has some coins
written_some : (coins g new : List ℕ) (t j : ℕ) → 0 < t → j * t + t ≤ length coins → length new ≡ t
    → IsSum new (take t (drop (j * t) coins)) (drop 1 g) → put_mid (j * t) t coins new ≡ added_to_row coins t g j
unfolding coef
written_some coins g new t j some fits long sum =
    let m = j * t in
    let front = take m coins in
    let back = drop t (drop m coins) in
    let size = length-take-le m coins (omega (arith, fits)) in
    let size_new = length-append front (new ++ back) in
    let size_rest = length-append new back in
    let size_back = length-drop t (drop m coins) in
    let size_drop = length-drop m coins in
    let all : length (put_mid m t coins new) ≡ length coins = omega (arith, size, size_new, size_rest, size_back, size_drop, long, fits) in
    ext_get_or 0 (put_mid m t coins new) (added_to_row coins t g j) (all ∙ sym (length-added coins t j (above g))) (λ i l.
    let within : i < length coins = omega (arith, all) in
    let now = added_at coins t j (above g) i within in
    let stays : i / t ≢ j → get_or coins i 0 ≡ get_or (added_to_row coins t g j) i 0 =
    λ isnt. sym (now ∙ ap (◌⊕◌ (get_or coins i 0)) (addend_outside (above g) t j i isnt) ∙ add_zero _) in
    elim (cases_lt i m) [
      | inl before ↦ get_or_append_left front (new ++ back) 0 i (omega (arith, size, before)) ∙ get_or-take m coins i 0 before ∙ stays (before_piece t j i before)
      | inr from ↦
          let e = i - m in
          let place : m + e ≡ i = omega (arith, from) in
          get_or-append_right front (new ++ back) m i 0 size from
          ∙ elim (cases_lt e t) [
            | inl inside ↦
                get_or_append_left new back 0 e (omega (arith, long, inside)) ∙ sum e
                ∙ ap₂ ◌⊕◌ (get_or-take t (drop m coins) e 0 inside ∙ get_or-drop m coins e 0 ∙ ap (λ k. get_or coins k 0) place)
                (get_or-drop 1 g e 0 ∙ ap (λ k. get_or g k 0) (omega arith) ∙ sym (addend_here (above g) t j j e inside refl) ∙ ap (addend (above g) t j) place)
                ∙ sym now
            | inr past ↦
                get_or-append_right new back t e 0 long past ∙ get_or-drop t (drop m coins) (e - t) 0 ∙ get_or-drop m coins (t + (e - t)) 0
                ∙ ap (λ k. get_or coins k 0) (omega (arith, past, place)) ∙ stays (after_piece t j i some (omega (arith, past, place)))
          ]
    ])

-- where it was added to the slice of any row
pub written_row : (coins g new : List ℕ) (t j : ℕ) → j * t + t ≤ length coins → length new ≡ t → length g ≤ t + 1
    → IsSum new (take t (drop (j * t) coins)) (drop 1 g) → put_mid (j * t) t coins new ≡ added_to_row coins t g j
written_row coins g new t j fits long few sum =
    elim (cases_lt 0 t) [
      | inl some ↦ written_some coins g new t j some fits long sum
      | inr none ↦ written_none coins g new t j (omega (arith, none)) long few
    ]

-- the slice of a row
pub length-row_slice : (coins : List ℕ) (t j : ℕ) → j * t + t ≤ length coins → length (take t (drop (j * t) coins)) ≡ t
length-row_slice coins t j fits = length-take-le t (drop (j * t) coins) (omega (arith, fits, length-drop (j * t) coins))
