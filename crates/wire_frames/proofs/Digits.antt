-- The bytes of a number, highest first: a list of bytes and the number that it spells say the same.
use Rattle.std.proofs.Common.{Fits, ◌≡◌, ℕ, zero, suc, ◌+◌, ◌*◌, ◌/◌, ◌%◌, ◌^◌, ◌<◌, ◌≤◌, List, [], ◌∷◌, ◌++◌, length, take, drop, get_or, All, refl, sym, subst, ap, ap₂, ◌∙◌, arith, length-append, length-drop}
use Rattle.std.proofs.Math.Nat.{add-mul, div-add-mod', div-lt_iff_lt-mul, div-one, mod-lt, mul-le-mul_right, mul_assoc, one-le-pow, pow-succ'}
use Rattle.std.proofs.lemmas.Nat.{div-mul-add, mod-mul-add, pow-add}
use Rattle.std.proofs.lemmas.List.{drop_more, length-take}
use Rattle.byteorder.specs.Endian.{big_from, big_number}
use Rattle.std.proofs.lemmas.List.Elements.{All-nil, All-cons, All-from_get_or, All-head, All-tail}
use Rattle.std.specs.Prelude.{slice_index_or}
use Rattle.std.specs.Int.{w8, byte_at, bytes_high_first}

-- a byte
abbrev pub IsByte : ℕ → Type 0
IsByte b = b < 256

-- what a slice of `u8` holds
pub bytes_from_fits : (bytes : List ℕ) → ((i : ℕ) → Fits w8 (slice_index_or bytes i 0)) → All IsByte bytes
bytes_from_fits bytes fits = All-from_get_or IsByte bytes 0 (λ i _. omega (arith, fits i))

-- the number that bytes spell, highest first
abbrev pub number : List ℕ → ℕ
number [] = 0
number (b ∷ bs) = b * 256 ^ length bs + number bs

-- a power of 256 is above zero
pub pow_pos : (k : ℕ) → 0 < 256 ^ k
pow_pos k = let h = one-le-pow k 256 (omega arith) in omega arith

-- one more place is 256 times as much
pub pow_up : (k : ℕ) → 256 ^ suc k ≡ 256 * 256 ^ k
pow_up k = pow-succ' 256 k

-- a byte of a number, by its place
byte_at-pow : (k x : ℕ) → byte_at k x ≡ x / 256 ^ k % 256
byte_at-pow zero x = ap (λ (y : ℕ). y % 256) (sym (div-one x))
byte_at-pow (suc k) x = refl

-- a number has as many bytes as were asked for
pub length-digits : (k v : ℕ) → length (bytes_high_first k v) ≡ k
length-digits zero v = refl
length-digits (suc k) v = let ih = length-digits k v in omega (arith, ih)

-- each of them is a byte
pub digits_are_bytes : (k v : ℕ) → All IsByte (bytes_high_first k v)
digits_are_bytes zero v = All-nil IsByte
digits_are_bytes (suc k) v =
    let low = subst (λ (y : ℕ). y < 256) (sym (byte_at-pow k v)) (mod-lt (v / 256 ^ k) (omega arith)) in
    All-cons IsByte (byte_at k v) (bytes_high_first k v) low (digits_are_bytes k v)

-- k bytes spell a number below 256 ^ k
pub number_below : (bs : List ℕ) → All IsByte bs → number bs < 256 ^ length bs
number_below [] h = omega arith
number_below (b ∷ bs) h =
    let ih = number_below bs (All-tail IsByte b bs h) in
    let low : b < 256 = All-head IsByte b bs h in
    let top : (b + 1) * 256 ^ length bs ≤ 256 * 256 ^ length bs = mul-le-mul_right (256 ^ length bs) (omega arith) in
    let up = pow_up (length bs) in
    let split : (b + 1) * 256 ^ length bs ≡ b * 256 ^ length bs + 1 * 256 ^ length bs = add-mul b 1 (256 ^ length bs) in
    omega (arith, ih, top, up, split)

-- c * 256 ^ suc k + (b * 256 ^ k + r), with its upper bytes together
regroup : (c b k r : ℕ) → c * 256 ^ suc k + (b * 256 ^ k + r) ≡ (c * 256 + b) * 256 ^ k + r
regroup c b k r =
    let up = pow_up k in
    let out = ap (λ (x : ℕ). c * x) up ∙ sym (mul_assoc c 256 (256 ^ k)) in
    let split = add-mul (c * 256) b (256 ^ k) in
    omega (arith, out, split)

-- byte k, where it is known what stands above and below it
byte_between : (c b k r : ℕ) → b < 256 → r < 256 ^ k → byte_at k ((c * 256 + b) * 256 ^ k + r) ≡ b
byte_between c b k r hb hr =
    byte_at-pow k ((c * 256 + b) * 256 ^ k + r) ∙ ap (λ (x : ℕ). x % 256) (div-mul-add (c * 256 + b) (256 ^ k) r hr) ∙ mod-mul-add c 256 b hb

-- bytes are the digits of the number that they spell, whatever stands above it
digits-number_under : (bs : List ℕ) (c : ℕ) → All IsByte bs → bytes_high_first (length bs) (c * 256 ^ length bs + number bs) ≡ bs
digits-number_under [] c h = refl
digits-number_under (b ∷ bs) c h =
    let low : b < 256 = All-head IsByte b bs h in
    let rest = All-tail IsByte b bs h in
    let same = regroup c b (length bs) (number bs) in
    ap (λ (x : ℕ). bytes_high_first (suc (length bs)) x) same
    ∙ ap₂ (λ (x : ℕ) (xs : List ℕ). x ∷ xs) (byte_between c b (length bs) (number bs) low (number_below bs rest)) (digits-number_under bs (c * 256 + b) rest)

-- bytes are the digits of the number that they spell
pub digits-number : (bs : List ℕ) → All IsByte bs → bytes_high_first (length bs) (number bs) ≡ bs
digits-number bs h =
    let same : number bs ≡ 0 * 256 ^ length bs + number bs = omega arith in
    ap (bytes_high_first (length bs)) same ∙ digits-number_under bs 0 h

-- the digits of a number spell what of it lies below their place
number-digits_under : (k c u : ℕ) → u < 256 ^ k → number (bytes_high_first k (c * 256 ^ k + u)) ≡ u
number-digits_under zero c u h = omega arith
number-digits_under (suc k) c u h =
    let up = pow_up k in
    let pos = pow_pos k in
    let split = div-add-mod' u (256 ^ k) in
    let low : u % 256 ^ k < 256 ^ k = mod-lt u pos in
    let top : u / 256 ^ k < 256 = (div-lt_iff_lt-mul pos).1 (omega (arith, up, h)) in
    let same : c * 256 ^ suc k + u ≡ (c * 256 + u / 256 ^ k) * 256 ^ k + u % 256 ^ k = ap (λ (x : ℕ). c * 256 ^ suc k + x) (sym split) ∙ regroup c (u / 256 ^ k) k (u % 256 ^ k) in
    let ih = number-digits_under k (c * 256 + u / 256 ^ k) (u % 256 ^ k) low in
    let head = byte_between c (u / 256 ^ k) k (u % 256 ^ k) top low in
    let long = length-digits k ((c * 256 + u / 256 ^ k) * 256 ^ k + u % 256 ^ k) in
    ap (λ (x : ℕ). number (bytes_high_first (suc k) x)) same ∙ rw (long, head, ih) split

-- a number's digits spell it, where they are enough
pub number-digits : (k v : ℕ) → v < 256 ^ k → number (bytes_high_first k v) ≡ v
number-digits k v h =
    let same : v ≡ 0 * 256 ^ k + v = omega arith in
    ap (λ (x : ℕ). number (bytes_high_first k x)) same ∙ number-digits_under k 0 v h

-- bytes in prefix stand above the places of those behind
pub number-append : (xs ys : List ℕ) → number (xs ++ ys) ≡ number xs * 256 ^ length ys + number ys
number-append [] ys = omega arith
number-append (x ∷ xs) ys =
    let ih = number-append xs ys in
    let long = length-append xs ys in
    let place : x * 256 ^ length (xs ++ ys) ≡ x * 256 ^ length xs * 256 ^ length ys = ap (λ (n : ℕ). x * 256 ^ n) long ∙ ap (λ (n : ℕ). x * n) (pow-add 256 (length xs) (length ys)) ∙ sym (mul_assoc x (256 ^ length xs) (256 ^ length ys)) in
    let split = add-mul (x * 256 ^ length xs) (number xs) (256 ^ length ys) in
    omega (arith, ih, place, split)

-- the number in the bytes from place i, as `byteorder` has it
big_from-is : (i n : ℕ) (bs : List ℕ) → i + n ≤ length bs → number (take n (drop i bs)) ≡ big_from i n bs
big_from-is i zero bs enough = refl
big_from-is i (suc n) bs enough =
    let split = ap (take (suc n)) (drop_more bs i 0 (omega arith)) in
    let rest = big_from-is (i + 1) n bs (omega arith) in
    let long : length (take n (drop (i + 1) bs)) ≡ n = length-take n (drop (i + 1) bs) ∙ omega (arith, length-drop (i + 1) bs) in
    ap number split ∙ ap₂ (λ (x y : ℕ). get_or bs i 0 * 256 ^ x + y) long rest ∙ ap (λ (j : ℕ). get_or bs i 0 * 256 ^ n + big_from j n bs) (omega arith)

-- the number in the first bytes
pub big_number-is : (n : ℕ) (bs : List ℕ) → n ≤ length bs → number (take n bs) ≡ big_number n bs
big_number-is n bs enough = big_from-is 0 n bs (omega arith)
