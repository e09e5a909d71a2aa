-- Coins where something is added to one piece.
use Rattle.std.proofs.Common.{◌≡◌, ◌≢◌, ℕ, ◌+◌, ◌*◌, ◌/◌, ◌%◌, ◌<◌, ◌≤◌, List, length, get_or, sym, ap, ◌∙◌, arith, inl, inr, lit<, zero-add}
use Rattle.std.specs.Prelude.{if◌then◌else◌}
use Rattle.std.proofs.Math.Nat.{div-mul-le_self, lt-div-mul-add}
use Rattle.std.proofs.lemmas.Bool.{cases_eq, eq-eqb, ne_eqb}
use Rattle.std.proofs.lemmas.List.{ext_get_or}
use Rattle.std.proofs.lemmas.List.Elements.{All-from_get_or}
use Rattle.std.proofs.lemmas.List.FromFn.{length-map-range_with_len, get_or-map-range_with_len}
use Rattle.std.proofs.lemmas.Nat.{div-mul-add, mod-mul-add}
use Rattle.gf256.specs.Field.{◌⊕◌}
use Rattle.gf256.proofs.Xor.{add_zero, add_self, add_assoc, add_lt}
use Rattle.privacy_law.specs.Pieces.{addend, added}
use Rattle.privacy_law.specs.Bijection.{AreCoins}

-- the length stays
pub length-added : (coins : List ℕ) (size piece : ℕ) (f : ℕ → ℕ) → length (added coins size piece f) ≡ length coins
unfolding added
length-added coins size piece f = length-map-range_with_len (λ i. get_or coins i 0 ⊕ addend f size piece i) 0 (length coins)

-- each byte
pub added_at : (coins : List ℕ) (size piece : ℕ) (f : ℕ → ℕ) (i : ℕ) → i < length coins → get_or (added coins size piece f) i 0 ≡ get_or coins i 0 ⊕ addend f size piece i
unfolding added
added_at coins size piece f i l = get_or-map-range_with_len (λ i. get_or coins i 0 ⊕ addend f size piece i) 0 (length coins) i i 0 l (zero-add i)

-- adding twice is nothing
pub added_twice : (coins : List ℕ) (size piece : ℕ) (f : ℕ → ℕ) → added (added coins size piece f) size piece f ≡ coins
added_twice coins size piece f =
    let once = added coins size piece f in
    let long = length-added once size piece f ∙ length-added coins size piece f in
    ext_get_or 0 (added once size piece f) coins long (λ i l.
    let within : i < length coins = omega (arith, long) in
    added_at once size piece f i (omega (arith, length-added coins size piece f)) ∙ ap (λ x. x ⊕ addend f size piece i) (added_at coins size piece f i within)
    ∙ add_assoc _ _ _ ∙ ap (◌⊕◌ (get_or coins i 0)) (add_self (addend f size piece i)) ∙ add_zero _)

-- what is added to byte e of the piece
pub addend_here : (f : ℕ → ℕ) (size piece k e : ℕ) → e < size → k ≡ piece → addend f size piece (k * size + e) ≡ f e
unfolding addend
addend_here f size piece k e l is =
    ap (λ b. if b then f ((k * size + e) % size) else 0) (eq-eqb ((k * size + e) / size) piece (div-mul-add k size e l ∙ is))
    ∙ ap f (mod-mul-add k size e l)

-- nothing is added to the bytes of other pieces
pub addend_outside : (f : ℕ → ℕ) (size piece i : ℕ) → i / size ≢ piece → addend f size piece i ≡ 0
unfolding addend
addend_outside f size piece i isnt = ap (λ b. if b then f (i % size) else 0) (ne_eqb (i / size) piece isnt)

-- such as byte e of piece k
pub addend_elsewhere : (f : ℕ → ℕ) (size piece k e : ℕ) → e < size → k ≢ piece → addend f size piece (k * size + e) ≡ 0
addend_elsewhere f size piece k e l isnt = addend_outside f size piece (k * size + e) (λ same. isnt (sym (div-mul-add k size e l) ∙ same))

-- nor to any, where f is nothing
pub addend_nothing : (f : ℕ → ℕ) (size piece i : ℕ) → ((e : ℕ) → f e ≡ 0) → addend f size piece i ≡ 0
unfolding addend
addend_nothing f size piece i none =
    elim (cases_eq (i / size) piece) [
      | inl same ↦ ap (λ b. if b then f (i % size) else 0) (eq-eqb (i / size) piece same) ∙ none (i % size)
      | inr other ↦ addend_outside f size piece i other
    ]

-- a byte before the piece
pub before_piece : (size piece i : ℕ) → i < piece * size → i / size ≢ piece
before_piece size piece i l same = let low = div-mul-le_self i size in let e = ap (λ q. q * size) same in omega (arith, l, low, e)

-- a byte after the piece
pub after_piece : (size piece i : ℕ) → 0 < size → piece * size + size ≤ i → i / size ≢ piece
after_piece size piece i some l same = let high = lt-div-mul-add {a = i} {b = size} some in let e = ap (λ q. q * size) same in omega (arith, l, high, e)

-- what is added is a byte
addend_lt : (f : ℕ → ℕ) (size piece i : ℕ) → ((e : ℕ) → f e < 256) → addend f size piece i < 256
unfolding addend
addend_lt f size piece i small =
    elim (cases_eq (i / size) piece) [
      | inl same ↦ rw (eq-eqb (i / size) piece same) (small (i % size))
      | inr other ↦ rw (ne_eqb (i / size) piece other) (lit< tt)
    ]

-- coins stay coins
pub AreCoins-added : (n : ℕ) (coins : List ℕ) (size piece : ℕ) (f : ℕ → ℕ) → ((e : ℕ) → f e < 256) → AreCoins n coins → AreCoins n (added coins size piece f)
AreCoins-added n coins size piece f small h = record {
  size = length-added coins size piece f ∙ h.size;
  bytes = All-from_get_or (λ c. c < 256) (added coins size piece f) 0 (λ i l.
      let within : i < length coins = omega (arith, length-added coins size piece f) in
      rw (added_at coins size piece f i within) (add_lt _ _ (h.bytes i 0 within) (addend_lt f size piece i small)));
}
