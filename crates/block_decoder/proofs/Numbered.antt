-- Each polynomial of so many bytes has a number.
use Rattle.std.proofs.Common.{◌≡◌, ℕ, zero, suc, ◌+◌, ◌*◌, ◌/◌, ◌%◌, ◌^◌, ◌<◌, ◌≤◌, List, [], ◌∷◌, length, map, take, get_or, All, refl, sym, ap, ap₂, ◌∙◌, arith, lit<, add-one}
use Rattle.std.specs.Int.{byte_at, bytes_low_first}
use Rattle.std.proofs.Math.Nat.{pow-suc, mul_comm, div-div-eq-div-mul}
use Rattle.std.proofs.lemmas.Nat.{mod_below}
use Rattle.std.proofs.lemmas.List.Elements.{All-nil, All-cons, All-head, All-tail}
use Rattle.gf256.specs.Polynomial.{coef, IsPolynomial}
use Rattle.block_decoder.specs.Agreed.{constants_of}
use Rattle.block_decoder.specs.Numbered.{numbered, all_numbered}

-- fewer of the lowest bytes are the first of them
pub take-bytes_low_first : (i k m n : ℕ) → k ≤ m → take k (bytes_low_first i m n) ≡ bytes_low_first i k n
take-bytes_low_first i zero m n h = refl
take-bytes_low_first i (suc k) zero n h = absurd (omega arith)
take-bytes_low_first i (suc k) (suc m) n h = ap (λ l. byte_at i n ∷ l) (take-bytes_low_first (suc i) k m n (omega arith))

-- so many bytes are so many
length-bytes_low_first : (i k n : ℕ) → length (bytes_low_first i k n) ≡ k
length-bytes_low_first i zero n = refl
length-bytes_low_first i (suc k) n = let ih = length-bytes_low_first (suc i) k n in omega (arith, ih)

-- each is a byte
byte_at-lt : (i n : ℕ) → byte_at i n < 256
byte_at-lt zero n = mod_below n 256 (lit< tt)
byte_at-lt (suc i) n = mod_below (n / 256 ^ suc i) 256 (lit< tt)

-- so all are bytes
All-bytes_low_first : (i k n : ℕ) → All (λ b. b < 256) (bytes_low_first i k n)
All-bytes_low_first i zero n = All-nil (λ b. b < 256)
All-bytes_low_first i (suc k) n = All-cons (λ b. b < 256) (byte_at i n) (bytes_low_first (suc i) k n) (byte_at-lt i n) (All-bytes_low_first (suc i) k n)

-- a number's polynomial has t + 1 bytes
pub IsPolynomial-numbered : (t n : ℕ) → IsPolynomial t (numbered t n)
unfolding numbered
IsPolynomial-numbered t n = record { size = length-bytes_low_first 0 (t + 1) n; bytes = All-bytes_low_first 0 (t + 1) n }

-- ---- the number of a polynomial

-- the number whose bytes are these, the lowest first
number_of : List ℕ → ℕ
number_of [] = 0
number_of (b ∷ bytes) = b + 256 * number_of bytes

-- the bytes above the lowest are those of the number without it
byte_at-above : (i b n : ℕ) → b < 256 → byte_at (suc i) (b + 256 * n) ≡ byte_at i n
byte_at-above zero b n h =
    let e : (b + 256 * n) / 256 ≡ n = omega arith in
    let p : 256 ^ 1 ≡ 256 = refl in
    ap (λ x. (b + 256 * n) / x % 256) p ∙ ap (λ x. x % 256) e
byte_at-above (suc i) b n h =
    let e : (b + 256 * n) / 256 ≡ n = omega arith in
    ap (λ x. (b + 256 * n) / x % 256) (pow-suc 256 (suc i) ∙ mul_comm (256 ^ suc i) 256)
    ∙ ap (λ x. x % 256) (sym (div-div-eq-div-mul (b + 256 * n) 256 (256 ^ suc i)))
    ∙ ap (λ x. x / 256 ^ suc i % 256) e

-- the bytes above the lowest are those of the rest
bytes-above : (i k b n : ℕ) → b < 256 → bytes_low_first (suc i) k (b + 256 * n) ≡ bytes_low_first i k n
bytes-above i zero b n h = refl
bytes-above i (suc k) b n h = ap₂ (λ x l. x ∷ l) (byte_at-above i b n h) (bytes-above (suc i) k b n h)

-- the bytes of the number of bytes are these
bytes-number_of : (bytes : List ℕ) → All (λ b. b < 256) bytes → bytes_low_first 0 (length bytes) (number_of bytes) ≡ bytes
unfolding number_of
bytes-number_of [] h = refl
bytes-number_of (b ∷ bytes) h =
    let low = All-head (λ b. b < 256) b bytes h in
    let e : (b + 256 * number_of bytes) % 256 ≡ b = omega arith in
    ap₂ (λ x l. x ∷ l) e (bytes-above 0 (length bytes) b (number_of bytes) low ∙ bytes-number_of bytes (All-tail (λ b. b < 256) b bytes h))

-- it is less than 256 to the power of how many there are
number_of-lt : (bytes : List ℕ) → All (λ b. b < 256) bytes → number_of bytes < 256 ^ length bytes
unfolding number_of
number_of-lt [] h = lit< tt
number_of-lt (b ∷ bytes) h =
    let low = All-head (λ b. b < 256) b bytes h in
    let ih = number_of-lt bytes (All-tail (λ b. b < 256) b bytes h) in
    let p = pow-suc 256 (length bytes) in
    omega (arith, low, ih, p)

-- some number is that of the polynomial
pub record HasNumber (t : ℕ) (p : List ℕ) : Type 0 where
  pub number : ℕ
  pub below : number < 256 ^ (t + 1)
  pub is : numbered t number ≡ p

-- each polynomial has a number
pub number-IsPolynomial : (t : ℕ) (p : List ℕ) → IsPolynomial t p → HasNumber t p
unfolding numbered
number-IsPolynomial t p h = record {
  number = number_of p;
  below = let b = number_of-lt p h.bytes in rw h.size at b;
  is = ap (λ k. bytes_low_first 0 k (number_of p)) (sym h.size) ∙ bytes-number_of p h.bytes;
}

-- some numbers are those of the polynomials
pub record HaveNumbers (t : ℕ) (ps : List (List ℕ)) : Type 0 where
  pub numbers : List ℕ
  pub below : All (λ n. n < 256 ^ (t + 1)) numbers
  pub are : all_numbered t numbers ≡ ps

-- so have all of several
pub numbers-IsPolynomial : (t : ℕ) (ps : List (List ℕ)) → All (IsPolynomial t) ps → HaveNumbers t ps
numbers-IsPolynomial t [] h = record { numbers = []; below = All-nil (λ n. n < 256 ^ (t + 1)); are = refl }
numbers-IsPolynomial t (p ∷ ps) h =
    let first = number-IsPolynomial t p (All-head (IsPolynomial t) p ps h) in
    let rest = numbers-IsPolynomial t ps (All-tail (IsPolynomial t) p ps h) in
    record {
      numbers = first.number ∷ rest.numbers;
      below = All-cons (λ n. n < 256 ^ (t + 1)) first.number rest.numbers first.below rest.below;
      are = ap₂ (λ x l. x ∷ l) first.is rest.are;
    }

-- each of the polynomials has t + 1 bytes
pub All-all_numbered : (t : ℕ) (numbers : List ℕ) → All (IsPolynomial t) (all_numbered t numbers)
All-all_numbered t [] = All-nil (IsPolynomial t)
All-all_numbered t (n ∷ numbers) = All-cons (IsPolynomial t) (numbered t n) (all_numbered t numbers) (IsPolynomial-numbered t n) (All-all_numbered t numbers)

-- the constant is the lowest byte
pub constants-all_numbered : (t : ℕ) (numbers : List ℕ) → constants_of (all_numbered t numbers) ≡ map (λ n. n % 256) numbers
unfolding numbered coef
constants-all_numbered t [] = refl
constants-all_numbered t (n ∷ numbers) =
    ap₂ (λ x l. x ∷ l) (ap (λ k. get_or (bytes_low_first 0 k n) 0 0) (add-one t)) (constants-all_numbered t numbers)
