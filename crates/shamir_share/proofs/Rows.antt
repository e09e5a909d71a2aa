-- The coins of rows, and the masks that they make.
use Rattle.std.proofs.Common.{◌≡◌, ℕ, ◌+◌, ◌-◌, ◌*◌, ◌<◌, ◌≤◌, List, [], ◌∷◌, ◌++◌, length, map, take, drop, get_or, refl, sym, ap, ap₂, ◌∙◌, inl, inr, arith, length-append, length-drop}
use Rattle.std.specs.List.{slice_range}
use Rattle.std.proofs.Math.Nat.{add-mul}
use Rattle.std.proofs.lemmas.Bool.{cases_lt}
use Rattle.std.proofs.lemmas.List.{ext_get_or, get_or-take, get_or-drop, get_or-map, get_or_append_left, get_or-append_right, length-map, length-take, drop-drop, drop-take, take-take, take_all, take_rest, drop_more}
use Rattle.std.proofs.lemmas.List.FromFn.{length-map-range_with_len, get_or-map-range_with_len}
use Rattle.gf256.specs.Field.{◌⊕◌, ◌⊗◌}
use Rattle.gf256.specs.Polynomial.{val}
use Rattle.gf256.proofs.Xor.{add_zero}
use Rattle.gf256.proofs.FieldLaws.{mul_zero, mul_one}
use Rattle.gf256.proofs.FlatRows.{row_within}
use Rattle.uni_poly.proofs.Values.{val_nil, val_cons}
use Rattle.shamir_share.specs.Query.{row_coins, masks}

-- coin e of row k
pub coin_at : (coins : List ℕ) (t k e : ℕ) → e < t → get_or (row_coins coins t k) e 0 ≡ get_or coins (k * t + e) 0
unfolding row_coins
coin_at coins t k e lt = get_or-take t (drop (k * t) coins) e 0 lt ∙ get_or-drop (k * t) coins e 0

-- a row has t coins where there are enough
pub length-row_coins : (coins : List ℕ) (t k : ℕ) → k * t + t ≤ length coins → length (row_coins coins t k) ≡ t
unfolding row_coins
length-row_coins coins t k enough = length-take t (drop (k * t) coins) ∙ omega (arith, length-drop (k * t) coins)

-- row j of a slice of n rows is row m + j
pub row_of_slice : (coins : List ℕ) (t m n j : ℕ) → j < n → row_coins (slice_range coins (m * t) ((m + n) * t)) t j ≡ row_coins coins t (m + j)
unfolding row_coins
row_of_slice coins t m n j lt =
    let fit = row_within j n t lt in
    let size : (m + n) * t - m * t ≡ j * t + (n * t - j * t) = omega (arith, add-mul m n t) in
    let place : m * t + j * t ≡ (m + j) * t = sym (add-mul m j t) in
    ap (λ k. take t (drop (j * t) (take k (drop (m * t) coins)))) size
    ∙ ap (take t) (drop-take (j * t) (n * t - j * t) (drop (m * t) coins))
    ∙ take-take t (n * t - j * t) (drop (j * t) (drop (m * t) coins)) (omega arith)
    ∙ ap (take t) (drop-drop (j * t) (m * t) coins ∙ ap (λ k. drop k coins) place)

-- the mask of a row
pub masks_at : (coins : List ℕ) (t r a j : ℕ) → j < r → get_or (masks coins t r a) j 0 ≡ a ⊗ val (row_coins coins t j) a
unfolding masks
masks_at coins t r a j lt = get_or-map-range_with_len (λ j. a ⊗ val (row_coins coins t j) a) 0 r j j 0 lt (omega arith)

-- there are r masks
pub length-masks : (coins : List ℕ) (t r a : ℕ) → length (masks coins t r a) ≡ r
unfolding masks
length-masks coins t r a = length-map-range_with_len _ 0 r

-- no mask
pub masks_none : (coins : List ℕ) (t a : ℕ) → [] ≡ masks coins t 0 a
unfolding masks
masks_none coins t a = refl

-- n more masks
pub masks_more : (coins : List ℕ) (t m n a : ℕ) → masks coins t m a ++ masks (slice_range coins (m * t) ((m + n) * t)) t n a ≡ masks coins t (m + n) a
masks_more coins t m n a =
    let first = masks coins t m a in
    let rest = masks (slice_range coins (m * t) ((m + n) * t)) t n a in
    let long = length-append first rest ∙ ap₂ ◌+◌ (length-masks coins t m a) (length-masks _ t n a) in
    ext_get_or 0 (first ++ rest) (masks coins t (m + n) a) (long ∙ sym (length-masks coins t (m + n) a)) (λ i lt.
    elim (cases_lt i m) [
      | inl l ↦ get_or_append_left first rest 0 i (omega (arith, length-masks coins t m a)) ∙ masks_at coins t m a i l ∙ sym (masks_at coins t (m + n) a i (omega arith))
      | inr g ↦
          let j = i - m in
          let back : m + j ≡ i = omega arith in
          get_or-append_right first rest m i 0 (length-masks coins t m a) g
          ∙ masks_at _ t n a j (omega arith) ∙ ap (λ p. a ⊗ val p a) (row_of_slice coins t m n j (omega arith) ∙ ap (row_coins coins t) back)
          ∙ sym (masks_at coins t (m + n) a i (omega arith))
    ])

-- the mask of one row of t coins
pub masks_one : (row : List ℕ) (t a : ℕ) → length row ≡ t → a ⊗ val row a ∷ [] ≡ masks row t 1 a
unfolding masks row_coins
masks_one row t a long =
    let none : 0 * t ≡ 0 = omega arith in
    ap (λ p. a ⊗ val p a ∷ []) (sym (ap (λ k. take t (drop k row)) none ∙ take_all t row (omega arith)))

-- one more mask, of the row in a slice
pub masks_next : (coins : List ℕ) (t m a : ℕ) → (m + 1) * t ≤ length coins
    → masks coins t m a ++ a ⊗ val (slice_range coins (m * t) ((m + 1) * t)) a ∷ [] ≡ masks coins t (m + 1) a
masks_next coins t m a enough =
    let row = slice_range coins (m * t) ((m + 1) * t) in
    let long : length row ≡ t = length-take ((m + 1) * t - m * t) (drop (m * t) coins) ∙ omega (arith, length-drop (m * t) coins, add-mul m 1 t) in
    ap (λ l. masks coins t m a ++ l) (masks_one row t a long) ∙ masks_more coins t m 1 a

-- the value of a row of one coin is the coin
pub val_of_coin : (coins : List ℕ) (i a : ℕ) → i < length coins → get_or coins i 0 < 256 → val (row_coins coins 1 i) a ≡ get_or coins i 0
unfolding row_coins
val_of_coin coins i a lt byte =
    let place : i * 1 ≡ i = omega arith in
    ap (λ k. val (take 1 (drop k coins)) a) place ∙ ap (λ l. val (take 1 l) a) (drop_more coins i 0 lt)
    ∙ val_cons (get_or coins i 0) [] a ∙ ap₂ ◌⊕◌ (mul_one (get_or coins i 0) byte) (ap (◌⊗◌ a) (val_nil a) ∙ mul_zero a) ∙ add_zero _

-- where each row has one coin, its mask is the coin's product
pub masks_of_coins : (coins : List ℕ) (r a : ℕ) → length coins ≡ r → ((i : ℕ) → get_or coins i 0 < 256) → map (◌⊗◌ a) coins ≡ masks coins 1 r a
masks_of_coins coins r a long bytes =
    ext_get_or 0 (map (◌⊗◌ a) coins) (masks coins 1 r a) (length-map coins (◌⊗◌ a) ∙ long ∙ sym (length-masks coins 1 r a)) (λ i lt.
    let within : i < length coins = omega (arith, length-map coins (◌⊗◌ a)) in
    get_or-map (◌⊗◌ a) coins i 0 0 within ∙ ap (◌⊗◌ a) (sym (val_of_coin coins i a within (bytes i))) ∙ sym (masks_at coins 1 r a i (omega arith)))

-- masks of rows that have the same coins
masks_same : (xs ys : List ℕ) (t r a : ℕ) → ((j : ℕ) → j < r → row_coins xs t j ≡ row_coins ys t j) → masks xs t r a ≡ masks ys t r a
masks_same xs ys t r a same =
    ext_get_or 0 (masks xs t r a) (masks ys t r a) (length-masks xs t r a ∙ sym (length-masks ys t r a)) (λ j l.
    let few : j < r = omega (arith, l, length-masks xs t r a) in
    masks_at xs t r a j few ∙ ap (λ p. a ⊗ val p a) (same j few) ∙ sym (masks_at ys t r a j few))

-- more coins behind n rows change nothing
pub masks_of_first : (coins : List ℕ) (t n a : ℕ) → masks (take (n * t) coins) t n a ≡ masks coins t n a
unfolding row_coins
masks_of_first coins t n a =
    masks_same (take (n * t) coins) coins t n a (λ j l.
    let fit = row_within j n t l in
    let size : n * t ≡ j * t + (n * t - j * t) = omega (arith, fit) in
    ap (λ k. take t (drop (j * t) (take k coins))) size
    ∙ ap (take t) (drop-take (j * t) (n * t - j * t) coins)
    ∙ take-take t (n * t - j * t) (drop (j * t) coins) (omega (arith, fit)))

-- the masks of n rows at the front of what is left are those of the rows in a slice
pub masks_of_rest : (coins : List ℕ) (t m n a : ℕ) → masks (take (length coins - m * t) (drop (m * t) coins)) t n a ≡ masks (slice_range coins (m * t) ((m + n) * t)) t n a
unfolding row_coins
masks_of_rest coins t m n a =
    ap (λ xs. masks xs t n a) (take_rest coins (m * t))
    ∙ masks_same (drop (m * t) coins) (slice_range coins (m * t) ((m + n) * t)) t n a (λ j l.
    ap (take t) (drop-drop (j * t) (m * t) coins ∙ ap (λ k. drop k coins) (sym (add-mul m j t)))
    ∙ sym (row_of_slice coins t m n j l))
