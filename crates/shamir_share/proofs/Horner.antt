-- Values by Horner's rule, from the last coefficient down.
use Rattle.std.proofs.Common.{◌≡◌, ℕ, zero, suc, ◌+◌, ◌*◌, ◌<◌, ◌≤◌, List, [], ◌∷◌, length, get_or, drop, refl, sym, ap, ◌∙◌, arith}
use Rattle.std.proofs.lemmas.List.{ext_get_or}
use Rattle.gf256.specs.Field.{◌⊕◌, ◌⊗◌}
use Rattle.gf256.specs.Polynomial.{val}
use Rattle.gf256.proofs.FieldLaws.{mul_comm, mul_zero}
use Rattle.uni_poly.proofs.Values.{val-drop, val-drop_all}
use Rattle.shamir_share.specs.Query.{row_coins, masks}
use Rattle.gf256.proofs.FlatRows.{row_within}
use Rattle.shamir_share.proofs.Rows.{coin_at, length-row_coins, masks_at, length-masks}

-- no coefficient
pub horner_none : (p : List ℕ) (n a : ℕ) → length p ≤ n → 0 ≡ a ⊗ val (drop n p) a
horner_none p n a past = sym (ap (◌⊗◌ a) (val-drop_all p n a past) ∙ mul_zero a)

-- one coefficient more
pub horner_next : (p : List ℕ) (e a v w : ℕ) → e < length p → get_or p e 0 < 256 → v ≡ a ⊗ val (drop (e + 1) p) a → w ≡ a ⊗ (v ⊕ get_or p e 0) → w ≡ a ⊗ val (drop e p) a
horner_next p e a v w lt byte before now =
    now ∙ ap (λ x. a ⊗ (x ⊕ get_or p e 0)) (before ∙ mul_comm a _) ∙ ap (◌⊗◌ a) (sym (val-drop p e a lt byte))

-- four rows are worked off down to coefficient e
pub record HasValues (rows : List ℕ) (t e a : ℕ) (values : List ℕ) : Type 0 where
  pub size : length values ≡ 4
  pub at : (k : ℕ) → k < 4 → get_or values k 0 ≡ a ⊗ val (drop e (row_coins rows t k)) a

-- none are worked off yet
pub values_none : (rows : List ℕ) (t a : ℕ) → length rows ≡ 4 * t → HasValues rows t t a (0 ∷ 0 ∷ 0 ∷ 0 ∷ [])
values_none rows t a long = record { size = refl; at = at }
  where
    row : (k : ℕ) → k < 4 → 0 ≡ a ⊗ val (drop t (row_coins rows t k)) a
    row k lt = horner_none (row_coins rows t k) t a (omega (arith, length-row_coins rows t k (let h = row_within k 4 t lt in omega (arith, h, long))))

    at : (k : ℕ) → k < 4 → get_or (0 ∷ 0 ∷ 0 ∷ 0 ∷ []) k 0 ≡ a ⊗ val (drop t (row_coins rows t k)) a
    at zero lt = row 0 lt
    at (suc zero) lt = row 1 lt
    at (suc (suc zero)) lt = row 2 lt
    at (suc (suc (suc zero))) lt = row 3 lt
    at (suc (suc (suc (suc k)))) lt = absurd (omega arith)

-- a step of each row
pub values_next : (rows : List ℕ) (t e a : ℕ) (values : List ℕ) (w x y z : ℕ) → length rows ≡ 4 * t → ((i : ℕ) → get_or rows i 0 < 256) → e < t → HasValues rows t (e + 1) a values
    → w ≡ a ⊗ (get_or values 0 0 ⊕ get_or rows e 0) → x ≡ a ⊗ (get_or values 1 0 ⊕ get_or rows (t + e) 0)
    → y ≡ a ⊗ (get_or values 2 0 ⊕ get_or rows (2 * t + e) 0) → z ≡ a ⊗ (get_or values 3 0 ⊕ get_or rows (3 * t + e) 0)
    → HasValues rows t e a (w ∷ x ∷ y ∷ z ∷ [])
values_next rows t e a values w x y z long bytes lt before hw hx hy hz = record { size = refl; at = at }
  where
    row : (k v : ℕ) → k < 4 → v ≡ a ⊗ (get_or values k 0 ⊕ get_or rows (k * t + e) 0) → v ≡ a ⊗ val (drop e (row_coins rows t k)) a
    row k v few now =
        let size = length-row_coins rows t k (let h = row_within k 4 t few in omega (arith, h, long)) in
        let coin = coin_at rows t k e lt in
        let byte = bytes (k * t + e) in
        horner_next (row_coins rows t k) e a (get_or values k 0) v (omega arith) (omega arith) (before.at k few) (now ∙ ap (λ c. a ⊗ (get_or values k 0 ⊕ c)) (sym coin))

    at : (k : ℕ) → k < 4 → get_or (w ∷ x ∷ y ∷ z ∷ []) k 0 ≡ a ⊗ val (drop e (row_coins rows t k)) a
    at zero lt = row 0 w lt (hw ∙ ap (λ i. a ⊗ (get_or values 0 0 ⊕ get_or rows i 0)) (omega arith))
    at (suc zero) lt = row 1 x lt (hx ∙ ap (λ i. a ⊗ (get_or values 1 0 ⊕ get_or rows i 0)) (omega arith))
    at (suc (suc zero)) lt = row 2 y lt hy
    at (suc (suc (suc zero))) lt = row 3 z lt hz
    at (suc (suc (suc (suc k)))) lt = absurd (omega arith)

-- all coefficients are worked off
pub values_all : (rows : List ℕ) (t a : ℕ) (values : List ℕ) → HasValues rows t 0 a values → values ≡ masks rows t 4 a
values_all rows t a values done =
    ext_get_or 0 values (masks rows t 4 a) (done.size ∙ sym (length-masks rows t 4 a)) (λ i lt. done.at i (omega (arith, done.size)) ∙ sym (masks_at rows t 4 a i (omega arith)))
