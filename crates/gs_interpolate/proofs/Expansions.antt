-- Polynomials about another point, by remainders.
use Rattle.std.proofs.Common.{◌≡◌, ℕ, zero, suc, ◌+◌, ◌-◌, ◌*◌, ◌/◌, ◌^◌, ◌≢◌, ◌<◌, ◌≤◌, List, ◌++◌, length, get_or, sym, ap, ap₂, subst, ◌∙◌, arith, inl, inr, lit≤, lit<, length-append, length-drop, drop, add-mul, mul_assoc, mul_comm, pow-suc, refl, take}
use Rattle.std.proofs.Math.Nat.{mul-le-mul_right, mul-add}
use Rattle.std.proofs.Math.Seq.{take-add}
use Rattle.std.proofs.lemmas.Bool.{cases_lt}
use Rattle.std.proofs.lemmas.List.{drop-drop, take_all, length-take-le, get_or-take, get_or_past, get_or-drop, get_or_append_left, get_or-append_right}
use Rattle.std.proofs.lemmas.List.FromFn.{length-map-range_with_len}
use Rattle.std.specs.Int.{IsPowerOfTwo}
use Rattle.gf256.specs.Field.{◌⊕◌, ◌⊗◌, power}
use Rattle.gf256.specs.Sums.{sum_to}
use Rattle.gf256.specs.Polynomial.{coef}
use Rattle.gf256.proofs.Xor.{add_zero, zero_add}
use Rattle.gf256.proofs.FieldLaws.{ring, add_mul, mul_add, mul_zero, zero_mul, one_mul, mul_one}
use Rattle.gf256.proofs.Powers.{power-add}
use Rattle.gf256.proofs.Sums.{sum_to-same, sum_to-zero, sum_to-longer, sum_to-append, sum_to-first, sum_to-swap, sum_to-mul, mul-sum_to}
use Rattle.gf256.proofs.FlatRows.{row_within}
use Rattle.uni_poly.specs.Taylor.{taylor}
use Rattle.bi_poly.specs.Hasse.{binomial_parity}
use Rattle.bi_poly.proofs.Binomials.{HasPascalSteps, pascal_steps-power, binomial_parity-none, binomial_parity-small}
use Rattle.bi_poly.proofs.Derivatives.{taylor-derivative, derivative_to, derivative_to-all}
use Rattle.gs_interpolate.specs.Family.{lane}
use Rattle.gs_interpolate.specs.Expansion.{folded, AreExpanded, AreHalvesAdded}
use Rattle.gs_interpolate.proofs.Places.{coef-lane, part_before, length-part, part_bytes}

-- what a coefficient c at x ^ i adds to the coefficient at x ^ u about a
abbrev pub term : ℕ → ℕ → ℕ → ℕ → ℕ
term a u i c = binomial_parity i u ⊗ (c ⊗ power a (i - u))

-- where there is no coefficient, nothing
pub term-zero : (a u i : ℕ) → term a u i 0 ≡ 0
term-zero a u i = ap (◌⊗◌ (binomial_parity i u)) (zero_mul (power a (i - u))) ∙ mul_zero (binomial_parity i u)

-- a sum of two coefficients adds what both add
pub term-add : (a u i c d : ℕ) → term a u i (c ⊕ d) ≡ term a u i c ⊕ term a u i d
term-add a u i c d =
    ap (◌⊗◌ (binomial_parity i u)) (add_mul c d (power a (i - u))) ∙ mul_add (binomial_parity i u) (c ⊗ power a (i - u)) (d ⊗ power a (i - u))

-- a coefficient once
term-one : (a u i c : ℕ) → term a u i (1 ⊗ c) ≡ term a u i c
term-one a u i c = ap (◌⊗◌ (binomial_parity i u)) (let once : (1 ⊗ c) ⊗ power a (i - u) ≡ c ⊗ power a (i - u) = simp ring in once)

-- a coefficient before the order adds nothing
term-before : (a u i c : ℕ) → i < u → term a u i c ≡ 0
term-before a u i c l = ap (λ x. x ⊗ (c ⊗ power a (i - u))) (binomial_parity-small i u l) ∙ zero_mul (c ⊗ power a (i - u))

-- a coefficient e powers further, where e is a power of two and the order is below, adds what a ^ e times it adds here
term-further : (e a u i c : ℕ) → HasPascalSteps e → u < e → term a u (e + i) c ≡ term a u i (power a e ⊗ c)
term-further e a u i c step l =
    ap (λ x. x ⊗ (c ⊗ power a (e + i - u))) (step.below i u l)
    ∙ elim (cases_lt i u) [
      | inl before ↦
          ap (λ x. x ⊗ (c ⊗ power a (e + i - u))) (binomial_parity-small i u before) ∙ zero_mul (c ⊗ power a (e + i - u))
          ∙ sym (term-before a u i (power a e ⊗ c) before)
      | inr past ↦
          let rest : e + i - u ≡ e + (i - u) = omega (arith, past) in
          let order : c ⊗ (power a e ⊗ power a (i - u)) ≡ (power a e ⊗ c) ⊗ power a (i - u) = simp ring in
          ap (◌⊗◌ (binomial_parity i u)) (ap (λ k. c ⊗ power a k) rest ∙ ap (◌⊗◌ c) (power-add a e (i - u)) ∙ order)
    ]

-- and several times e powers further
pub term-folded : (e a u b i c : ℕ) → HasPascalSteps e → u < e → term a u (b * e + i) c ≡ term a u i (power (power a e) b ⊗ c)
unfolding power
term-folded e a u zero i c step l =
    let none : 0 * e + i ≡ i = omega arith in
    ap (λ k. term a u k c) none ∙ sym (term-one a u i c)
term-folded e a u (suc b) i c step l =
    let more : suc b * e + i ≡ e + (b * e + i) = omega arith in
    let order : power (power a e) b ⊗ (power a e ⊗ c) ≡ power a e ⊗ power (power a e) b ⊗ c = simp ring in
    ap (λ k. term a u k c) more ∙ term-further e a u (b * e + i) c step l ∙ term-folded e a u b i (power a e ⊗ c) step l
    ∙ ap (term a u i) order

-- the series of a polynomial beside others, term by term
pub taylor-terms : (s g a u n : ℕ) (r : List ℕ) → 1 ≤ s → length r ≤ n * s → taylor (lane s g r) a u ≡ sum_to (λ i. term a u i (get_or r (i * s + g) 0)) n
unfolding lane derivative_to coef
taylor-terms s g a u n r some fits =
    let F = λ (i : ℕ). term a u i (get_or r (i * s + g) 0) in
    let size = length-map-range_with_len (λ i. get_or r (i * s + g) 0) 0 (length r) in
    let all = n + length r in
    taylor-derivative (lane s g r) a u
    ∙ sym (derivative_to-all (lane s g r) a u all (omega (arith, size)))
    ∙ sum_to-same (λ i. term a u i (get_or (lane s g r) i 0)) F all (λ i l. ap (term a u i) (coef-lane s g r i some))
    ∙ sum_to-longer F n all (omega arith) (λ i l.
    let past = mul-le-mul_right s l in
    ap (term a u i) (get_or_past r (i * s + g) 0 (omega (arith, past, fits))) ∙ term-zero a u i)

-- a sum in pieces of e terms
sum_to-pieces : (f : ℕ → ℕ) (e b : ℕ) → sum_to (λ k. sum_to (λ r. f (k * e + r)) e) b ≡ sum_to f (b * e)
unfolding sum_to
sum_to-pieces f e zero = ap (sum_to f) (let none : 0 ≡ 0 * e = omega arith in none)
sum_to-pieces f e (suc b) =
    ap (λ x. x ⊕ sum_to (λ r. f (b * e + r)) e) (sum_to-pieces f e b) ∙ sym (sum_to-append f (b * e) e)
    ∙ ap (sum_to f) (let more : b * e + e ≡ suc b * e = omega arith in more)

-- what a sum of coefficients adds
term-sum : (a u i n : ℕ) (f : ℕ → ℕ) → term a u i (sum_to f n) ≡ sum_to (λ b. term a u i (f b)) n
term-sum a u i n f =
    ap (◌⊗◌ (binomial_parity i u)) (sum_to-mul (power a (i - u)) f n) ∙ mul-sum_to (binomial_parity i u) (λ b. f b ⊗ power a (i - u)) n

-- What is left of a row in sums: at each of e powers they add what the folded row adds.
module _ (s e a u g : ℕ) (row sums : List ℕ) (some : 1 ≤ s) (step : HasPascalSteps e) (low : u < e) (inside : g < s) (size : length sums ≡ e * s) where
  -- then it has the first coefficients about a that the whole has
  taylor-left : ((r : ℕ) → r < e → term a u r (get_or sums (r * s + g) 0) ≡ term a u r (folded (e * s) (power a e) row (r * s + g)))
      → taylor (lane s g sums) a u ≡ taylor (lane s g row) a u
  taylor-left is =
      let B = length row in
      let p = power a e in
      let F = λ (i : ℕ). term a u i (get_or row (i * s + g) 0) in
      let most : 1 * s ≤ e * s = mul-le-mul_right s (omega (arith, low)) in
      let wide : 1 ≤ e * s = omega (arith, most, some) in
      let enough = mul-le-mul_right B wide in
      let same : B * e * s ≡ e * s * B = mul_assoc B e s ∙ mul_comm B (e * s) in
      taylor-terms s g a u e sums some (omega (arith, size))
      ∙ sum_to-same (λ r. term a u r (get_or sums (r * s + g) 0)) (λ r. sum_to (λ b. F (b * e + r)) B) e (λ r k.
      is r k
      ∙ term-sum a u r B (λ b. power p b ⊗ get_or row (b * (e * s) + (r * s + g)) 0)
      ∙ sum_to-same (λ b. term a u r (power p b ⊗ get_or row (b * (e * s) + (r * s + g)) 0)) (λ b. F (b * e + r)) B (λ b j.
      let place : b * (e * s) + (r * s + g) ≡ (b * e + r) * s + g = omega (arith, mul_assoc b e s, add-mul (b * e) r s) in
      ap (λ k. term a u r (power p b ⊗ get_or row k 0)) place ∙ sym (term-folded e a u b r (get_or row ((b * e + r) * s + g) 0) step low)))
      ∙ sum_to-swap (λ r b. F (b * e + r)) e B
      ∙ sum_to-pieces F e B
      ∙ sym (taylor-terms s g a u (B * e) row some (omega (arith, enough, same)))

  -- as where the sums are the folded row
  pub taylor-folded : ((k : ℕ) → k < e * s → get_or sums k 0 ≡ folded (e * s) (power a e) row k) → taylor (lane s g sums) a u ≡ taylor (lane s g row) a u
  taylor-folded is = taylor-left (λ r k. let fit = row_within r e s k in ap (term a u r) (is (r * s + g) (omega (arith, fit, inside))))

-- the coefficients about a past those of the first half are those of the second half
pub taylor-high : (s h a w g : ℕ) (low high : List ℕ) → 1 ≤ s → HasPascalSteps h → w < h → g < s → length low ≡ h * s → length high ≡ h * s
    → taylor (lane s g (low ++ high)) a (h + w) ≡ taylor (lane s g high) a w
taylor-high s h a w g low high some step l inside size long =
    let xs = low ++ high in
    let F = λ (i : ℕ). term a (h + w) i (get_or xs (i * s + g) 0) in
    taylor-terms s g a (h + w) (h + h) xs some (omega (arith, length-append low high, size, long, add-mul h h s))
    ∙ sum_to-append F h h
    ∙ ap₂ ◌⊕◌ (sum_to-zero F h (λ i k. term-before a (h + w) i (get_or xs (i * s + g) 0) (omega (arith, k))))
    (sum_to-same (λ r. F (h + r)) (λ r. term a w r (get_or high (r * s + g) 0)) h (λ r k.
    let place : (h + r) * s + g ≡ h * s + (r * s + g) = omega (arith, add-mul h r s) in
    let back : h * s + (r * s + g) - h * s ≡ r * s + g = omega arith in
    let less : h + r - (h + w) ≡ r - w = omega arith in
    ap₂ (λ x c. x ⊗ (c ⊗ power a (h + r - (h + w))))
    (step.above r w ∙ ap (◌⊕◌ (binomial_parity r w)) (binomial_parity-small r (h + w) (omega (arith, k))) ∙ add_zero (binomial_parity r w))
    (ap (λ k. get_or xs k 0) place ∙ get_or-append_right low high (h * s) (h * s + (r * s + g)) 0 size (omega arith) ∙ ap (λ k. get_or high k 0) back)
    ∙ ap (λ k. binomial_parity r w ⊗ (get_or high (r * s + g) 0 ⊗ power a k)) less))
    ∙ zero_add _
    ∙ sym (taylor-terms s g a w h high some (omega (arith, long)))

-- a power of two has steps like Pascal's
pub steps_of : (e : ℕ) → IsPowerOfTwo e → HasPascalSteps e
steps_of e power = subst HasPascalSteps (sym power.1) (pascal_steps-power power.0)

-- half of a power of two that isn't 1
half_power : (k e : ℕ) → e ≡ 2 ^ k → e ≢ 1 → IsPowerOfTwo (e / 2)
half_power zero e is more = absurd (more is)
half_power (suc k) e is more = (k, (let half : e / 2 ≡ 2 ^ k = omega (arith, is, pow-suc 2 k) in half))

pub half-IsPowerOfTwo : (e : ℕ) → IsPowerOfTwo e → e ≢ 1 → IsPowerOfTwo (e / 2)
half-IsPowerOfTwo e power more = half_power power.0 e power.1 more

-- twice that half is the whole
two_halves : (k e : ℕ) → e ≡ 2 ^ k → e ≢ 1 → e / 2 + e / 2 ≡ e
two_halves zero e is more = absurd (more is)
two_halves (suc k) e is more = omega (arith, is, pow-suc 2 k)

-- and it is not 0
power_some : (k : ℕ) → 1 ≤ 2 ^ k
power_some zero = lit≤ tt
power_some (suc k) = omega (arith, power_some k, pow-suc 2 k)

pub halves-IsPowerOfTwo : (e : ℕ) → IsPowerOfTwo e → e ≢ 1 → e / 2 + e / 2 ≡ e
halves-IsPowerOfTwo e power more = two_halves power.0 e power.1 more

-- a constant is its own series
pub expanded-one : (s a : ℕ) (cells : List ℕ) → 1 ≤ s → ((k : ℕ) → get_or cells k 0 < 256) → length cells ≡ s → AreExpanded s 1 a cells (λ g. lane s g cells)
unfolding sum_to power
expanded-one s a cells some byte size u g l h =
    let none : u ≡ 0 = omega (arith, l) in
    let c = get_or cells (0 * s + g) 0 in
    let byte : c < 256 = byte (0 * s + g) in
    ap (λ k. get_or cells (k * s + g) 0) none
    ∙ sym (ap (taylor (lane s g cells) a) none
    ∙ taylor-terms s g a 0 1 cells some (omega (arith, size))
    ∙ zero_add (binomial_parity 0 0 ⊗ (c ⊗ 1))
    ∙ ap (λ x. x ⊗ (c ⊗ 1)) (binomial_parity-none 0) ∙ ap (◌⊗◌ 1) (mul_one c byte) ∙ one_mul c byte)

-- nothing folded
pub folded-none : (n p k : ℕ) (row : List ℕ) → length row ≡ 0 → folded n p row k ≡ 0
unfolding sum_to
folded-none n p k row none = ap (sum_to (λ b. power p b ⊗ get_or row (b * n + k) 0)) none

-- one more piece in front
pub folded-next : (n p k : ℕ) (row : List ℕ) → 1 ≤ n → ((k : ℕ) → get_or row k 0 < 256) → folded n p row k ≡ get_or row k 0 ⊕ p ⊗ folded n p (drop n row) k
unfolding power
folded-next n p k row some byte =
    let all = length row in
    let back = drop n row in
    let F = λ (b : ℕ). power p b ⊗ get_or row (b * n + k) 0 in
    let G = λ (b : ℕ). power p b ⊗ get_or back (b * n + k) 0 in
    let first : 0 * n + k ≡ k = omega arith in
    let less = length-drop n row in
    sym (sum_to-longer F all (suc all) (omega arith) (λ b l.
    let wide = mul-le-mul_right b some in
    ap (◌⊗◌ (power p b)) (get_or_past row (b * n + k) 0 (omega (arith, wide, l, mul_comm b n))) ∙ mul_zero (power p b)))
    ∙ sum_to-first F all
    ∙ ap₂ ◌⊕◌ (ap (λ i. 1 ⊗ get_or row i 0) first ∙ one_mul (get_or row k 0) (byte k))
    (sum_to-same (λ b. F (suc b)) (λ b. p ⊗ G b) all (λ b l.
    let place : suc b * n + k ≡ n + (b * n + k) = omega (arith, add-mul b 1 n) in
    let y = get_or back (b * n + k) 0 in
    ap (λ x. (p ⊗ power p b) ⊗ x) (ap (λ i. get_or row i 0) place ∙ sym (get_or-drop n row (b * n + k) 0))
    ∙ (let order : (p ⊗ power p b) ⊗ y ≡ p ⊗ (power p b ⊗ y) = simp ring in order))
    ∙ sym (mul-sum_to p G all)
    ∙ ap (◌⊗◌ p) (sum_to-longer G (length back) all (omega (arith, less)) (λ b l.
    let wide = mul-le-mul_right b some in
    ap (◌⊗◌ (power p b)) (get_or_past back (b * n + k) 0 (omega (arith, wide, l, mul_comm b n))) ∙ mul_zero (power p b))))

-- the coefficients about a of the first half, where the second times a ^ h is added, are those of the whole
pub taylor-low : (s h a u g : ℕ) (low high : List ℕ) → 1 ≤ s → HasPascalSteps h → u < h → g < s → length low ≡ h * s → length high ≡ h * s
    → taylor (lane s g (low ++ high)) a u ≡ taylor (lane s g low) a u ⊕ power a h ⊗ taylor (lane s g high) a u
taylor-low s h a u g low high some step l inside size long =
    let xs = low ++ high in
    let p = power a h in
    let F = λ (i : ℕ). term a u i (get_or xs (i * s + g) 0) in
    let H = λ (r : ℕ). term a u r (get_or high (r * s + g) 0) in
    taylor-terms s g a u (h + h) xs some (omega (arith, length-append low high, size, long, add-mul h h s))
    ∙ sum_to-append F h h
    ∙ ap₂ ◌⊕◌
    (sum_to-same F (λ r. term a u r (get_or low (r * s + g) 0)) h (λ r k.
    let fit = row_within r h s k in
    ap (term a u r) (get_or_append_left low high 0 (r * s + g) (omega (arith, fit, inside, size))))
    ∙ sym (taylor-terms s g a u h low some (omega (arith, size))))
    (sum_to-same (λ r. F (h + r)) (λ r. p ⊗ H r) h (λ r k.
    let c = get_or high (r * s + g) 0 in
    let q = power a (r - u) in
    let place : (h + r) * s + g ≡ h * s + (r * s + g) = omega (arith, add-mul h r s) in
    let back : h * s + (r * s + g) - h * s ≡ r * s + g = omega arith in
    ap (term a u (h + r)) (ap (λ k. get_or xs k 0) place ∙ get_or-append_right low high (h * s) (h * s + (r * s + g)) 0 size (omega arith) ∙ ap (λ k. get_or high k 0) back)
    ∙ term-further h a u r c step l
    ∙ (let order : binomial_parity r u ⊗ ((p ⊗ c) ⊗ q) ≡ p ⊗ (binomial_parity r u ⊗ (c ⊗ q)) = simp ring in order))
    ∙ sym (mul-sum_to p H h) ∙ ap (◌⊗◌ p) (sym (taylor-terms s g a u h high some (omega (arith, long)))))

-- so many coefficients of polynomials side by side, the piece at place b
abbrev pub piece : ℕ → ℕ → List ℕ → ℕ → List ℕ
piece n h cells b = take (h * n) (drop (b * (h * n)) cells)

-- Each piece is about a, and there are twice as many as pairs, or one.
pub record AreHalved (n terms a : ℕ) (cells now : List ℕ) (pairs size factor : ℕ) : Type 0 where
  pub pieces : ℕ
  pub half : ℕ
  pub many : IsPowerOfTwo pieces
  pub two : IsPowerOfTwo half
  pub whole : pieces * half ≡ terms
  pub pairs_are : pairs ≡ pieces / 2
  pub size_is : size ≡ half * n
  pub factor_is : factor ≡ power a half
  pub long : length now ≡ terms * n
  pub each : (b u g : ℕ) → b < pieces → u < half → g < n → get_or now ((b * half + u) * n + g) 0 ≡ taylor (lane n g (piece n half cells b)) a u

-- a single coefficient is
pub halved-none : (n terms a : ℕ) (cells : List ℕ) → 1 ≤ n → a < 256 → IsPowerOfTwo terms → length cells ≡ terms * n → ((k : ℕ) → get_or cells k 0 < 256)
    → AreHalved n terms a cells cells (terms / 2) n a
unfolding power
halved-none n terms a cells some byte many size bytes = record {
  pieces = terms;
  half = 1;
  many = many;
  two = (0, refl);
  whole = omega arith;
  pairs_are = refl;
  size_is = omega arith;
  factor_is = sym (mul_one a byte);
  long = size;
  each = λ b u g l h inside.
      let none : u ≡ 0 = omega (arith, h) in
      let one : 1 * n ≡ n = omega arith in
      let place : (b * 1 + u) * n + g ≡ b * (1 * n) + g = ap (λ x. x * n + g) (let e : b * 1 + u ≡ b = omega (arith, none) in e) ∙ ap (λ x. b * x + g) (sym one) in
      let fit = row_within b terms n l in
      let room : b * (1 * n) + 1 * n ≤ length cells = subst (λ x. b * x + x ≤ length cells) (sym one) (omega (arith, fit, size)) in
      let part = piece n 1 cells b in
      let first : 0 * n + g ≡ g = omega arith in
      ap (λ k. get_or cells k 0) place
      ∙ sym (part_before cells (b * (1 * n)) (1 * n) g (omega (arith, one, inside))) ∙ ap (λ k. get_or part k 0) (sym first)
      ∙ expanded-one n a part some (λ k. part_bytes cells (b * (1 * n)) (1 * n) k bytes) (length-part cells (b * (1 * n)) (1 * n) room ∙ one) 0 g (lit< tt) inside
      ∙ ap (taylor (lane n g part) a) (sym none);
}

-- two pieces are one of twice the length
piece-two : (n h b : ℕ) (cells : List ℕ) → piece n (h + h) cells b ≡ piece n h cells (b + b) ++ piece n h cells (b + b + 1)
piece-two n h b cells =
    let s = h * n in
    let both : (h + h) * n ≡ s + s = add-mul h h n in
    let at : b * (s + s) ≡ (b + b) * s = omega (arith, add-mul b b s, mul-add b s s) in
    let next : (b + b) * s + s ≡ (b + b + 1) * s = omega (arith, add-mul (b + b) 1 s) in
    ap (λ w. take w (drop (b * w) cells)) both ∙ take-add s s (drop (b * (s + s)) cells)
    ∙ ap₂ ◌++◌ (ap (λ k. take s (drop k cells)) at)
    (ap (take s) (drop-drop s (b * (s + s)) cells ∙ ap (λ k. drop k cells) (ap (λ k. k + s) at ∙ next)))

-- twice a power of two is one
twice-IsPowerOfTwo : (h : ℕ) → IsPowerOfTwo h → IsPowerOfTwo (h + h)
twice-IsPowerOfTwo h two = (suc two.0, (let more : h + h ≡ 2 ^ suc two.0 = omega (arith, two.1, pow-suc 2 two.0) in more))

-- a power of two of which the half is not 0 is not 1
some_halves : (k pairs : ℕ) → pairs ≡ k / 2 → 0 < pairs → k ≢ 1
some_halves k pairs are some one = absurd (omega (arith, are, some, one))

-- where there are no pairs, there is one piece
one_piece : (k : ℕ) → IsPowerOfTwo k → 0 ≡ k / 2 → k ≡ 1
one_piece k many none = let some = power_some many.0 in omega (arith, none, many.1, some)

-- a place in one of two pieces
place-low : (n h b u g : ℕ) → (b * (h + h) + u) * n + g ≡ b * (h * n + h * n) + (u * n + g)
place-low n h b u g = omega (arith, add-mul (b * (h + h)) u n, mul_assoc b (h + h) n, ap (λ x. b * x) (add-mul h h n))

-- in pieces of half the length
place-first : (n h b u g : ℕ) → ((b + b) * h + u) * n + g ≡ b * (h * n + h * n) + (u * n + g)
place-first n h b u g = omega (arith, add-mul ((b + b) * h) u n, mul_assoc (b + b) h n, add-mul b b (h * n), mul-add b (h * n) (h * n))

place-second : (n h b u g : ℕ) → ((b + b + 1) * h + u) * n + g ≡ b * (h * n + h * n) + (h * n + (u * n + g))
place-second n h b u g =
    omega (arith, add-mul ((b + b + 1) * h) u n, mul_assoc (b + b + 1) h n, add-mul (b + b) 1 (h * n), add-mul b b (h * n), mul-add b (h * n) (h * n))

-- two pieces become one of twice the length
module _ (n terms a pairs size factor : ℕ) (cells now made : List ℕ) (some : 1 ≤ n) (size-cells : length cells ≡ terms * n) (more : 0 < pairs) (old : AreHalved n terms a cells now pairs size factor)
    (added : AreHalvesAdded factor size pairs made now) where
  pub halved-next : AreHalved n terms a cells made (pairs / 2) (size * 2) (factor ⊗ factor)
  halved-next =
      let k = old.pieces in
      let h = old.half in
      let s = h * n in
      let single = some_halves k pairs old.pairs_are more in
      let twice = halves-IsPowerOfTwo k old.many single in
      let steps = steps_of h old.two in
      let sums = subst (λ f. AreHalvesAdded f s pairs made now) old.factor_is (subst (λ s. AreHalvesAdded factor s pairs made now) old.size_is added) in
      let room : (b : ℕ) → b < k → b * s + s ≤ length cells = λ b l.
      let fit = row_within b k s l in
      omega (arith, fit, size-cells, mul_assoc k h n, ap (λ x. x * n) old.whole) in
      record {
        pieces = k / 2;
        half = h + h;
        many = half-IsPowerOfTwo k old.many single;
        two = twice-IsPowerOfTwo h old.two;
        whole = mul-add (k / 2) h h ∙ sym (add-mul (k / 2) (k / 2) h) ∙ ap (λ x. x * h) twice ∙ old.whole;
        pairs_are = ap (λ x. x / 2) old.pairs_are;
        size_is = ap (λ x. x * 2) old.size_is ∙ (let e : s * 2 ≡ (h + h) * n = omega (arith, add-mul h h n) in e);
        factor_is = ap₂ ◌⊗◌ old.factor_is old.factor_is ∙ sym (power-add a h h);
        long = sums.size ∙ old.long;
        each = λ b u g l m inside.
            let pair : b < pairs = omega (arith, l, old.pairs_are) in
            let one : b + b < k = omega (arith, l, twice) in
            let other : b + b + 1 < k = omega (arith, l, twice) in
            let low = piece n h cells (b + b) in
            let high = piece n h cells (b + b + 1) in
            let long-low = length-part cells ((b + b) * s) s (room (b + b) one) in
            let long-high = length-part cells ((b + b + 1) * s) s (room (b + b + 1) other) in
            ap (λ i. get_or made i 0) (place-low n h b u g)
            ∙ elim (cases_lt u h) [
              | inl before ↦
                  let fit = row_within u h n before in
                  sums.first b (u * n + g) pair (omega (arith, fit, inside))
                  ∙ ap₂ (λ i j. get_or now i 0 ⊕ power a h ⊗ get_or now j 0) (sym (place-first n h b u g)) (sym (place-second n h b u g))
                  ∙ ap₂ (λ x y. x ⊕ power a h ⊗ y) (old.each (b + b) u g one before inside) (old.each (b + b + 1) u g other before inside)
                  ∙ sym (taylor-low n h a u g low high some steps before inside long-low long-high)
              | inr past ↦
                  let w = u - h in
                  let order : h + w ≡ u = omega (arith, past) in
                  let within : w < h = omega (arith, past, m) in
                  let fit = row_within w h n within in
                  let there : b * (s + s) + (u * n + g) ≡ b * (s + s) + (s + (w * n + g)) =
                  ap (λ x. b * (s + s) + (x * n + g)) (sym order) ∙ (let e : b * (s + s) + ((h + w) * n + g) ≡ b * (s + s) + (s + (w * n + g)) = omega (arith, add-mul h w n) in e) in
                  ap (λ i. get_or made i 0) there
                  ∙ sums.second b (w * n + g) pair (omega (arith, fit, inside))
                  ∙ ap (λ i. get_or now i 0) (sym (place-second n h b w g))
                  ∙ old.each (b + b + 1) w g other within inside
                  ∙ sym (taylor-high n h a w g low high some steps within inside long-low long-high)
                  ∙ ap (taylor (lane n g (low ++ high)) a) order
            ]
            ∙ sym (ap (λ r. taylor (lane n g r) a u) (piece-two n h b cells));
      }

-- the pairs are all of the cells
pub halved-room : (n terms a pairs size factor : ℕ) (cells now : List ℕ) → 0 < pairs → AreHalved n terms a cells now pairs size factor
    → pairs * (size + size) ≡ length now
halved-room n terms a pairs size factor cells now more done =
    let k = done.pieces in
    let s = done.half * n in
    let twice = halves-IsPowerOfTwo k done.many (some_halves k pairs done.pairs_are more) in
    ap₂ (λ p s. p * (s + s)) done.pairs_are done.size_is ∙ mul-add (k / 2) s s ∙ sym (add-mul (k / 2) (k / 2) s) ∙ ap (λ p. p * s) twice
    ∙ sym (mul_assoc k done.half n) ∙ ap (λ x. x * n) done.whole ∙ sym done.long

-- and in the end there is one, the whole
pub halved-all : (n terms a pairs size factor : ℕ) (cells now : List ℕ) → length cells ≡ terms * n → pairs ≡ 0 → AreHalved n terms a cells now pairs size factor
    → AreExpanded n terms a now (λ g. lane n g cells)
halved-all n terms a pairs size factor cells now long none done u g l inside =
    let one = one_piece done.pieces done.many (sym none ∙ done.pairs_are) in
    let all : done.half ≡ terms = omega (arith, done.whole, ap (λ k. k * done.half) one) in
    let place : u * n + g ≡ (0 * done.half + u) * n + g = omega arith in
    let size : done.half * n ≡ length cells = ap (λ h. h * n) all ∙ sym long in
    let part : piece n done.half cells 0 ≡ cells = ap (λ k. take (done.half * n) (drop k cells)) (let e : 0 * (done.half * n) ≡ 0 = omega arith in e) ∙ take_all (done.half * n) cells (omega (arith, size)) in
    ap (λ k. get_or now k 0) place ∙ done.each 0 u g (omega (arith, one)) (omega (arith, all, l)) inside
    ∙ ap (λ r. taylor (lane n g r) a u) part

-- a row that is no longer than one piece is what it folds to
folded-short : (n p k : ℕ) (row : List ℕ) → 1 ≤ n → ((k : ℕ) → get_or row k 0 < 256) → length row ≤ n → folded n p row k ≡ get_or row k 0
folded-short n p k row some bytes short =
    let none = folded-none n p k (drop n row) (omega (arith, length-drop n row, short)) in
    folded-next n p k row some bytes ∙ ap (λ x. get_or row k 0 ⊕ p ⊗ x) none ∙ ap (◌⊕◌ (get_or row k 0)) (mul_zero p) ∙ add_zero (get_or row k 0)

-- What a row folds to, where only its first d coefficients are made those about a: the row has no more, or they are all.
module _ (s e d a : ℕ) (row sums made : List ℕ) (some : 1 ≤ s) (two : IsPowerOfTwo e) (few : d ≤ e) (enough : d < e → length row ≤ d * s) (bytes : (k : ℕ) → get_or row k 0 < 256)
    (size : length sums ≡ e * s) (long : length made ≡ d * s) (is : (k : ℕ) → k < e * s → get_or sums k 0 ≡ folded (e * s) (power a e) row k)
    (done : AreExpanded s d a made (λ g. lane s g (take (d * s) sums))) where
  -- where the row has no more, it is what it folds to
  same_row : d < e → (k : ℕ) → k < e * s → get_or sums k 0 ≡ get_or row k 0
  same_row less k l =
      let wide = mul-le-mul_right s few in
      let one : 1 ≤ e = omega (arith, less) in
      let most = mul-le-mul_right s one in
      is k l ∙ folded-short (e * s) (power a e) k row (omega (arith, most, some)) bytes (omega (arith, enough less, wide))

  -- so it is about a
  used-series : d < e → (u g : ℕ) → g < s → taylor (lane s g row) a u ≡ sum_to (λ i. term a u i (get_or row (i * s + g) 0)) d
  used-series less u g h = taylor-terms s g a u d row some (enough less)

  pub expanded-used : AreExpanded s e a (made ++ drop (d * s) sums) (λ g. lane s g row)
  expanded-used u g l h =
      let part = take (d * s) sums in
      let wide = mul-le-mul_right s few in
      let size-part : length part ≡ d * s = length-take-le (d * s) sums (omega (arith, size, wide)) in
      elim (cases_lt d e) [
        | inl less ↦ elim (cases_lt u d) [
          | inl low ↦
              let fit = row_within u d s low in
              get_or_append_left made (drop (d * s) sums) 0 (u * s + g) (omega (arith, fit, h, long)) ∙ done u g low h
              ∙ taylor-terms s g a u d part some (omega (arith, size-part))
              ∙ sum_to-same (λ i. term a u i (get_or part (i * s + g) 0)) (λ i. term a u i (get_or row (i * s + g) 0)) d (λ i m.
              let within = row_within i d s m in
              ap (term a u i) (get_or-take (d * s) sums (i * s + g) 0 (omega (arith, within, h)) ∙ same_row less (i * s + g) (omega (arith, within, h, wide))))
              ∙ sym (used-series less u g h)
          | inr high ↦
              let past = mul-le-mul_right s high in
              let fit = row_within u e s l in
              let back : d * s + (u * s + g - d * s) ≡ u * s + g = omega (arith, past) in
              get_or-append_right made (drop (d * s) sums) (d * s) (u * s + g) 0 long (omega (arith, past))
              ∙ get_or-drop (d * s) sums (u * s + g - d * s) 0 ∙ ap (λ k. get_or sums k 0) back
              ∙ same_row less (u * s + g) (omega (arith, fit, h)) ∙ get_or_past row (u * s + g) 0 (omega (arith, enough less, past))
              ∙ sym (used-series less u g h ∙ sum_to-zero (λ i. term a u i (get_or row (i * s + g) 0)) d (λ i m. term-before a u i (get_or row (i * s + g) 0) (omega (arith, m, high))))
        ]
        | inr all ↦
            let whole : d ≡ e = omega (arith, all, few) in
            let low : u < d = omega (arith, l, whole) in
            let fit = row_within u d s low in
            let same : part ≡ sums = take_all (d * s) sums (let e : length sums ≡ d * s = size ∙ ap (λ k. k * s) (sym whole) in omega (arith, e)) in
            get_or_append_left made (drop (d * s) sums) 0 (u * s + g) (omega (arith, fit, h, long)) ∙ done u g low h
            ∙ ap (λ r. taylor (lane s g r) a u) same ∙ taylor-folded s e a u g row sums some (steps_of e two) l h size is
      ]
