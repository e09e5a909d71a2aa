-- The bytes of a value.
use Rattle.std.proofs.Common.{◌≡◌, ◌≢◌, ◌==◌, ℕ, zero, suc, ◌+◌, ◌-◌, ◌<◌, ◌≤◌, Bool, true, ne_eqb, if◌then◌else◌, List, [], ◌∷◌, ◌++◌, length, take, drop, get_or, replicate, refl, sym, ap, ap₂, subst, ◌∙◌, arith, w16, take_at, drop_at}
use Rattle.std.specs.Int.{from_be_bytes, to_be_bytes}
use Rattle.std.specs.List.{list_all}
use Rattle.std.proofs.lemmas.Nat.{from_be_bytes-to_be_bytes_2, be_bytes_2}
use Rattle.std.proofs.lemmas.List.{length-drop, length-append, length-replicate, take-append-drop, drop_more, nil_from_length}
use Rattle.key_table.specs.Entry.{IsValue, value_bytes, value_size}
use Rattle.key_table.proofs.Zeros.{zeros_alone}

-- the two bytes at the head of some bytes
abbrev pub first_two : List ℕ → List ℕ
first_two bytes = get_or bytes 0 0 ∷ get_or bytes 1 0 ∷ []

-- they are its length, the value and zeros
pub value_bytes-some : (most : ℕ) (value : List ℕ) → most ≢ 0 → value_bytes most value ≡ to_be_bytes w16 (length value) ++ (value ++ replicate (most - length value) 0)
value_bytes-some most value nz =
    ap (λ (c : Bool). if c then [] else (to_be_bytes w16 (length value) ++ (value ++ replicate (most - length value) 0))) (ne_eqb most 0 nz)

-- where a value may have some, its bytes are two more
pub value_size-some : (most : ℕ) → most ≢ 0 → value_size most ≡ 2 + most
value_size-some most nz = ap (λ (c : Bool). if c then 0 else 2 + most) (ne_eqb most 0 nz)

-- the parts that are found in the bytes of a value
pub record Parts (most : ℕ) (value bytes : List ℕ) : Type 0 where
  pub count : from_be_bytes w16 (first_two bytes) ≡ length value
  pub front : take (length value) (drop 2 bytes) ≡ value
  pub back : drop (length value) (drop 2 bytes) ≡ replicate (most - length value) 0

-- they are found there
pub value_parts : (most : ℕ) (value bytes : List ℕ) → most ≢ 0 → most ≤ 16384 → IsValue most value → value_bytes most value ≡ bytes
    → Parts most value bytes
value_parts most value bytes nz few is_value is =
    let zeros = replicate (most - length value) 0 in
    subst (λ bs. Parts most value bs) (sym (value_bytes-some most value nz) ∙ is) (record {
      count = from_be_bytes-to_be_bytes_2 (length value) (omega (arith, few, is_value.few));
      front = take_at value zeros (length value) refl;
      back = drop_at value zeros (length value) refl;
    })

-- two bytes and more
pub two_first : (bytes : List ℕ) → 2 ≤ length bytes → bytes ≡ first_two bytes ++ drop 2 bytes
two_first bytes enough = drop_more bytes 0 0 (omega (arith, enough)) ∙ ap (λ bs. get_or bytes 0 0 ∷ bs) (drop_more bytes 1 0 (omega (arith, enough)))

-- two bytes are bytes
pub fits_two : (a b : ℕ) → a < 256 → b < 256 → (i : ℕ) → get_or (a ∷ b ∷ []) i 0 < 256
fits_two a b la lb zero = la
fits_two a b la lb (suc zero) = lb
fits_two a b la lb (suc (suc i)) = omega arith

-- the bytes are those of the value that is found in them
pub value_bytes-from_parts : (most : ℕ) (value bytes : List ℕ) → most ≢ 0 → length bytes ≡ value_size most
    → ((i : ℕ) → get_or bytes i 0 < 256) → length value ≡ from_be_bytes w16 (first_two bytes) → length value ≤ most
    → value ≡ take (length value) (drop 2 bytes) → list_all (λ b. b == 0) (drop (length value) (drop 2 bytes)) ≡ true
    → value_bytes most value ≡ bytes
value_bytes-from_parts most value bytes nz size fits count few front back =
    let whole : length bytes ≡ 2 + most = size ∙ value_size-some most nz in
    let behind : length (drop 2 bytes) ≡ most = omega (arith, whole, length-drop 2 bytes) in
    let rest = drop (length value) (drop 2 bytes) in
    let long : length rest ≡ most - length value = omega (arith, behind, length-drop (length value) (drop 2 bytes)) in
    let zeros : replicate (most - length value) 0 ≡ rest = ap (λ n. replicate n 0) (sym long) ∙ sym (zeros_alone rest back) in
    let two : to_be_bytes w16 (length value) ≡ first_two bytes = be_bytes_2 (first_two bytes) (length value) refl (fits_two (get_or bytes 0 0) (get_or bytes 1 0) (fits 0) (fits 1)) count in
    value_bytes-some most value nz
    ∙ ap₂ (λ x y. x ++ y) two (ap₂ (λ x y. x ++ y) front zeros ∙ take-append-drop (length value) (drop 2 bytes))
    ∙ sym (two_first bytes (omega (arith, whole)))

-- where no value has a byte there are no bytes, and they are those of the empty value
pub value_bytes-none : (most : ℕ) (bytes : List ℕ) → most ≡ 0 → length bytes ≡ value_size most → IsValue most bytes × (value_bytes most bytes ≡ bytes)
value_bytes-none zero bytes is size = (record { few = omega (arith, size); no_newline = λ k d lt. absurd (omega (arith, lt, size)) }, sym (nil_from_length bytes size))
value_bytes-none (suc n) bytes is size = absurd (omega (arith, is))

-- how many bytes a value takes
pub length-value_bytes : (most : ℕ) (value : List ℕ) → length value ≤ most → length (value_bytes most value) ≡ value_size most
length-value_bytes zero value few = refl
length-value_bytes (suc n) value few =
    let zeros = replicate (suc n - length value) 0 in
    let tail = length-append value zeros in
    let many : length zeros ≡ suc n - length value = length-replicate (suc n - length value) 0 in
    let whole : length (to_be_bytes w16 (length value) ++ (value ++ zeros)) ≡ 2 + suc n = omega (arith, tail, many, few) in
    ap length (value_bytes-some (suc n) value (omega arith)) ∙ whole ∙ sym (value_size-some (suc n) (omega arith))

-- two values with the same bytes are one
pub value_unique : (most : ℕ) (one other : List ℕ) → most ≤ 16384 → IsValue most one → IsValue most other
    → value_bytes most one ≡ value_bytes most other → one ≡ other
value_unique zero one other few a b is = nil_from_length one (omega (arith, a.few)) ∙ sym (nil_from_length other (omega (arith, b.few)))
value_unique (suc n) one other few a b is =
    let left = value_parts (suc n) one (value_bytes (suc n) one) (omega arith) few a refl in
    let right = value_parts (suc n) other (value_bytes (suc n) one) (omega arith) few b (sym is) in
    sym left.front ∙ ap (λ k. take k (drop 2 (value_bytes (suc n) one))) (sym left.count ∙ right.count) ∙ right.front
