-- The bytes of the servers' bitmaps, and their sum.
use Rattle.std.proofs.Common.{◌≡◌, ◌≢◌, ℕ, zero, suc, ◌+◌, ◌-◌, ◌*◌, ◌/◌, ◌%◌, ◌^◌, ◌<◌, ◌≤◌, ◌==◌, Bool, if◌then◌else◌, List, length, get_or, set, bit_xor, slice_range, inl, inr, refl, sym, ap, ap₂, ◌∙◌, arith, drop}
use Rattle.std.proofs.lemmas.Bool.Decides.{eqb_tells}
use Rattle.std.proofs.lemmas.List.{ext_get_or, get_or-set_same, get_or-set_other, get_or-take, get_or-drop, length-set}
use Rattle.std.proofs.lemmas.List.FromFn.{length-map-range_with_len, get_or-map-range_with_len}
use Rattle.gf256.specs.Field.{◌⊕◌}
use Rattle.gf256.specs.Sums.{sum_to}
use Rattle.gf256.proofs.Xor.{add_zero, add_self_left}
use Rattle.gf256.proofs.Sums.{sum_to-same}
use Rattle.chor_xor.specs.Bitmap.{size_of, cleared, random_byte, unit_byte, last_byte, bitmap}
use Rattle.chor_xor.proofs.Bits.{cleared-sum_to, power-by_shift}

-- place k of the bytes from a place on
slice_at : (xs : List ℕ) (from to k : ℕ) → k < to - from → get_or (slice_range xs from to) k 0 ≡ get_or xs (from + k) 0
slice_at xs from to k l = get_or-take (to - from) (drop from xs) k 0 l ∙ get_or-drop from xs k 0

-- place k of piece i
pub piece_at : (coins : List ℕ) (i size k : ℕ) → k < size → get_or (slice_range coins (i * size) ((i + 1) * size)) k 0 ≡ get_or coins (i * size + k) 0
piece_at coins i size k l =
    let long : (i + 1) * size ≡ i * size + size = grind arith in
    slice_at coins (i * size) ((i + 1) * size) k (omega (arith, long, l))

-- one more piece in a sum of pieces
pub pieces-next : (coins : List ℕ) (i size k sum next : ℕ) → k < size
    → sum ≡ sum_to (λ j. get_or coins (j * size + k) 0) i → next ≡ sum ⊕ get_or (slice_range coins (i * size) ((i + 1) * size)) k 0
    → next ≡ sum_to (λ j. get_or coins (j * size + k) 0) (i + 1)
unfolding sum_to
pieces-next coins i size k sum next l before now =
    let more : suc i ≡ i + 1 = omega arith in
    now ∙ ap₂ ◌⊕◌ before (piece_at coins i size k l) ∙ ap (sum_to (λ j. get_or coins (j * size + k) 0)) more

-- how long a bitmap is
pub length-bitmap : (coins : List ℕ) (n r block index : ℕ) → length (bitmap coins n r block index) ≡ size_of r
unfolding bitmap
length-bitmap coins n r block index = length-map-range_with_len _ 0 (size_of r)

-- a byte of the bitmap of a server before the last
pub bitmap-random : (coins : List ℕ) (n r block index k : ℕ) → k < size_of r → index ≢ n
    → get_or (bitmap coins n r block index) k 0 ≡ random_byte coins r (index - 1) k
unfolding bitmap
bitmap-random coins n r block index k l ne =
    get_or-map-range_with_len (λ k. if index == n then last_byte coins n r block k else random_byte coins r (index - 1) k) 0 (size_of r) k k 0 l (omega arith)
    ∙ elim (eqb_tells index n) [
      | inl same ↦ absurd (ne same.1)
      | inr other ↦ ap (λ t. if t then last_byte coins n r block k else random_byte coins r (index - 1) k) other.0
    ]

-- a byte of the bitmap of the last
pub bitmap-last : (coins : List ℕ) (n r block k : ℕ) → k < size_of r → get_or (bitmap coins n r block n) k 0 ≡ last_byte coins n r block k
unfolding bitmap
bitmap-last coins n r block k l =
    get_or-map-range_with_len (λ k. if n == n then last_byte coins n r block k else random_byte coins r (n - 1) k) 0 (size_of r) k k 0 l (omega arith)
    ∙ elim (eqb_tells n n) [
      | inl same ↦ ap (λ t. if t then last_byte coins n r block k else random_byte coins r (n - 1) k) same.0
      | inr other ↦ absurd (other.1 refl)
    ]

-- a piece with the unused bits cleared is the bitmap of a server before the last
pub random-is : (coins out : List ℕ) (n r block index size : ℕ) → size ≡ size_of r → index ≢ n → length out ≡ size
    → ((k : ℕ) → get_or out k 0 ≡ cleared r k (get_or (slice_range coins ((index - 1) * size) ((index - 1 + 1) * size)) k 0))
    → out ≡ bitmap coins n r block index
unfolding random_byte
random-is coins out n r block index size is ne long each =
    ext_get_or 0 out (bitmap coins n r block index) (long ∙ is ∙ sym (length-bitmap coins n r block index))
    (λ k l.
    each k ∙ ap (cleared r k) (piece_at coins (index - 1) size k (omega arith) ∙ ap (λ s. get_or coins ((index - 1) * s + k) 0) is)
    ∙ sym (bitmap-random coins n r block index k (omega arith) ne))

-- the unit vector of a block, added
unit-added : (xs : List ℕ) (block : ℕ) → block / 8 < length xs
    → (k : ℕ) → get_or (set xs (block / 8) (bit_xor (get_or xs (block / 8) 0) (1 * 2 ^ (7 - block % 8) % 256))) k 0 ≡ get_or xs k 0 ⊕ unit_byte block k
unfolding unit_byte ◌⊕◌
unit-added xs block within k =
    let x = bit_xor (get_or xs (block / 8) 0) (1 * 2 ^ (7 - block % 8) % 256) in
    let unit : Bool → ℕ = λ t. if t then 2 ^ (7 - block % 8) else 0 in
    elim (eqb_tells k (block / 8)) [
      | inl same ↦
          ap (λ j. get_or (set xs (block / 8) x) j 0) same.1 ∙ get_or-set_same xs (block / 8) x 0 within
          ∙ ap₂ bit_xor (ap (λ j. get_or xs j 0) (sym same.1)) (power-by_shift (7 - block % 8) (omega arith) ∙ sym (ap unit same.0))
      | inr other ↦
          get_or-set_other xs (block / 8) k x 0 other.1
          ∙ sym (ap (bit_xor (get_or xs k 0)) (ap unit other.0) ∙ add-nothing (get_or xs k 0))
    ]
  where
    add-nothing : (a : ℕ) → bit_xor a 0 ≡ a
    add-nothing a = add_zero a

-- the sum of all pieces with the unused bits cleared, and the unit vector, are the bitmap of the
-- last
pub last-is : (coins sum trim : List ℕ) (n r block size : ℕ) → size ≡ size_of r → block < r → length trim ≡ size
    → ((k : ℕ) → k < size → get_or sum k 0 ≡ sum_to (λ i. get_or coins (i * size + k) 0) (n - 1))
    → ((k : ℕ) → get_or trim k 0 ≡ cleared r k (get_or sum k 0))
    → set trim (block / 8) (bit_xor (get_or trim (block / 8) 0) (1 * 2 ^ (7 - block % 8) % 256)) ≡ bitmap coins n r block n
unfolding last_byte random_byte
last-is coins sum trim n r block size is within long summed each =
    let unit = unit-added trim block (omega arith) in
    ext_get_or 0 _ (bitmap coins n r block n)
    (length-set trim (block / 8) _ ∙ long ∙ is ∙ sym (length-bitmap coins n r block n))
    (λ k l.
    let low : k < size = omega (arith, length-set trim (block / 8) (bit_xor (get_or trim (block / 8) 0) (1 * 2 ^ (7 - block % 8) % 256))) in
    unit k
    ∙ ap (λ x. x ⊕ unit_byte block k)
    (each k ∙ ap (cleared r k) (summed k low) ∙ cleared-sum_to r k (λ i. get_or coins (i * size + k) 0) (n - 1)
    ∙ ap (λ s. sum_to (λ i. cleared r k (get_or coins (i * s + k) 0)) (n - 1)) is)
    ∙ sym (bitmap-last coins n r block k (omega arith)))

-- the bitmaps of n servers add up to the unit vector
pub sum_of_bitmaps : (coins : List ℕ) (n r block k : ℕ) → 1 ≤ n → k < size_of r
    → sum_to (λ i. get_or (bitmap coins n r block (i + 1)) k 0) n ≡ unit_byte block k
unfolding sum_to last_byte
sum_of_bitmaps coins zero r block k some l = absurd (omega arith)
sum_of_bitmaps coins (suc m) r block k some l =
    let n = suc m in
    let last : m + 1 ≡ n = omega arith in
    let others : n - 1 ≡ m = omega arith in
    let sum = sum_to (λ i. random_byte coins r i k) m in
    ap₂ ◌⊕◌
    (sum_to-same _ (λ i. random_byte coins r i k) m (λ i h.
    let back : i + 1 - 1 ≡ i = omega arith in
    bitmap-random coins n r block (i + 1) k l (λ e. omega (arith, e, h)) ∙ ap (λ j. random_byte coins r j k) back))
    (ap (λ j. get_or (bitmap coins n r block j) k 0) last ∙ bitmap-last coins n r block k l
    ∙ ap (λ j. sum_to (λ i. random_byte coins r i k) j ⊕ unit_byte block k) others)
    ∙ add_self_left sum (unit_byte block k)
