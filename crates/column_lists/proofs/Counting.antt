-- There are more monomials of the plan's weighted degree than equations, so that the interpolation has a solution (Guruswami
-- and Sudan 1999).
use Rattle.std.proofs.Common.{◌≡◌, ℕ, zero, suc, ◌+◌, ◌*◌, ◌^◌, ◌-◌, ◌/◌, ◌<◌, ◌≤◌, sym, ap, subst, arith, inl, inr, refl, mul-le-mul_left}
use Rattle.std.proofs.lemmas.Bool.{cases_lt}
use Rattle.interpolation.specs.Monomials.{monomials, monomials_below, conditions}
use Rattle.interpolation.specs.declared.TheConstants.{MOST_WEIGHTED_DEGREE}
use Rattle.column_lists.specs.Numbers.{mult, cost}
use Rattle.column_lists.specs.declared.TheConstants.{MOST_COST, MOST_POINTS}

-- ---- the number of monomials

-- from one row to the row before
row : (t k n : ℕ) → k * (k + t) ≤ 2 * t * n → (k + t) * (k + t + t) ≤ 2 * t * (k + t + n)
row t k n h = omega arith

-- where row 0 alone has some
one_row : (t n : ℕ) → n ≤ t → n * (n + t) ≤ 2 * t * n
one_row t n h = let w = mul-le-mul_left n h in omega arith

-- 2 * t times as many are at least n * (n + t)
many : (rows t n : ℕ) → 1 ≤ t → n ≤ rows → n * (n + t) ≤ 2 * t * monomials_below rows t n
unfolding monomials_below
many zero t n some h = let e : n ≡ 0 = omega arith in subst (λ (x : ℕ). x * (x + t) ≤ 2 * t * 0) (sym e) (omega arith)
many (suc rows) t n some h =
    elim (cases_lt n t) [
      | inl l ↦ let w = one_row t n (omega arith) in omega arith
      | inr l ↦
          subst (λ (x : ℕ). x * (x + t) ≤ 2 * t * (x + monomials_below rows t (n - t))) (let e : n - t + t ≡ n = omega arith in e)
          (row t (n - t) (monomials_below rows t (n - t)) (many rows t (n - t) some (omega arith)))
    ]

-- ---- against the number of equations

-- a common factor may be left away
cancel : (t a b : ℕ) → t * a < t * b → a < b
cancel t a b h = elim (cases_lt a b) [ inl l ↦ l | inr l ↦ absurd (let w = mul-le-mul_left t l in omega arith) ]

-- k is h + r, and h * h is k * t + d
weigh : (t k h r m d : ℕ) → k ≡ h + r → h * h ≡ k * t + d → t * r < m * d → t * (k * (m + 1)) < h * (h * m + t)
weigh t k h r m d ek eh l =
    let e1 = ap (λ (x : ℕ). x * m) eh in
    let e2 = ap (λ (x : ℕ). t * x) ek in
    omega arith

-- the monomials outnumber the equations, by their numbers
outnumber : (t k h r m d n : ℕ) → 1 ≤ m → k ≡ h + r → h * h ≡ k * t + d → t * r < m * d → h * m * (h * m + t) ≤ 2 * t * n
    → k * (m * (m + 1)) < 2 * n
outnumber t k h r m d n some ek eh l q =
    let i = weigh t k h r m d ek eh l in
    cancel t (k * (m * (m + 1))) (2 * n) (let w = mul-le-mul_left m i in omega arith)

-- one more than a quotient, times the divisor, is past the number
past_quotient : (x d : ℕ) → 1 ≤ d → x < (x / d + 1) * d
past_quotient x d h = omega arith

-- the same halved
halves : (k m n : ℕ) → k * (m * (m + 1)) < 2 * n → k * m * (m + 1) / 2 < n
halves k m n h = let q : ℕ = k * m * (m + 1) in let e : q ≡ k * (m * (m + 1)) = omega arith in (let l : q < 2 * n = omega arith in omega arith)

-- with m one more than a quotient
enough : (k t h m : ℕ) → 1 ≤ t → h ≤ k → k * t < h * h → m ≡ t * (k - h) / (h * h - k * t) + 1 → conditions k m < monomials_below (h * m) t (h * m)
enough k t h m some l strong is =
    let n : ℕ = monomials_below (h * m) t (h * m) in
    let past = past_quotient (t * (k - h)) (h * h - k * t) (omega arith) in
    halves k m n
    (outnumber t k h (k - h) m (h * h - k * t) n (omega arith) (omega arith) (omega arith)
    (subst (λ (x : ℕ). t * (k - h) < x * (h * h - k * t)) (sym is) past)
    (many (h * m) t (h * m) some (omega arith)))

-- a plan's degree is one less than h * m
pub enough_monomials : (k t h d : ℕ) → 1 ≤ t → h ≤ k → k * t < h * h → d + 1 ≡ h * mult k t h → cost k t h < monomials t d
unfolding mult
enough_monomials k t h d some l strong degree =
    subst (λ (x : ℕ). cost k t h < monomials_below x t x) (sym degree) (enough k t h (mult k t h) some l strong refl)

-- ---- sizes

-- greater factors have a greater product
products : (a b c d : ℕ) → a ≤ c → b ≤ d → a * b ≤ c * d
products a b c d h l = let e = mul-le-mul_left a l in let f = mul-le-mul_left d h in omega (arith, e, f)

-- a number below a multiple has no greater quotient
quotient_below : (x d n : ℕ) → x < suc n * d → x / d ≤ n
quotient_below x d n h =
    elim (cases_lt (x / d) (suc n)) [
      | inl small ↦ omega (arith, small)
      | inr large ↦
          let w = mul-le-mul_left d large in
          let e : d * (x / d) ≤ x = whole x d in
          absurd (omega (arith, h, w, e))
    ]
  where
    whole : (x d : ℕ) → d * (x / d) ≤ x
    whole x d = omega arith

-- the multiplicity is small
pub mult-small : (k t h : ℕ) → 1 ≤ t → t < h → h ≤ k → k ≤ MOST_POINTS → k * t < h * h
    → t * (k - h) / (h * h - k * t) + 1 ≤ 64263
mult-small k t h some more l few strong =
    let a : t * (k - h) ≤ 254 * 253 = products t (k - h) 254 253 (omega (arith, few)) (omega (arith, few)) in
    let d : ℕ = h * h - k * t in
    let p : 1 ≤ d = omega arith in
    let q : t * (k - h) / d ≤ t * (k - h) = quotient (t * (k - h)) d p in
    omega (arith, a, q)
  where
    quotient : (x d : ℕ) → 1 ≤ d → x / d ≤ x
    quotient x d p = omega arith

-- so the number of equations is, also before it is halved
pub equations-small : (k m : ℕ) → k ≤ MOST_POINTS → m ≤ 64263 → k * m * (m + 1) ≤ 255 * 64263 * 64264
equations-small k m few small =
    let a : k * m ≤ 255 * 64263 = products k m 255 64263 few small in
    products (k * m) (m + 1) (255 * 64263) 64264 a (omega (arith, small))

-- it is less than 2 ^ 40
pub cost-small : (k t h : ℕ) → 1 ≤ t → t < h → h ≤ k → k ≤ MOST_POINTS → k * t < h * h → cost k t h < 2 ^ 40
unfolding mult
cost-small k t h some more l few strong =
    let m : ℕ = t * (k - h) / (h * h - k * t) + 1 in
    halved (k * m * (m + 1)) (equations-small k m few (mult-small k t h some more l few strong))
  where
    halved : (q : ℕ) → q ≤ 255 * 64263 * 64264 → q / 2 < 2 ^ 40
    halved q l = omega (arith, l)

-- ---- ranges

-- with so few equations the multiplicity is a byte
byte_multiplicity : (k m : ℕ) → 1 ≤ k → conditions k m ≤ MOST_COST → m ≤ 255
byte_multiplicity k m some few =
    elim (cases_lt m 256) [
      | inl small ↦ omega (arith, small)
      | inr large ↦
          let a : 1 * 256 ≤ k * m = products 1 256 k m some large in
          let b : 1 * 256 * 257 ≤ k * m * (m + 1) = products (1 * 256) 257 (k * m) (m + 1) a (omega (arith, large)) in
          absurd (halved (k * m * (m + 1)) b few)
    ]
  where
    halved : (q : ℕ) → 1 * 256 * 257 ≤ q → ¬ (q / 2 ≤ MOST_COST)
    halved q l few = omega (arith, l, few)

-- so the multiplicity is in its range
pub multiplicity-in_range : (k t h m : ℕ) → 1 ≤ k → m ≡ mult k t h → conditions k m ≤ MOST_COST → (1 ≤ m) × (m ≤ 255)
unfolding mult
multiplicity-in_range k t h m some is few = (subst (λ (x : ℕ). 1 ≤ x) (sym is) (more (t * (k - h) / (h * h - k * t))), byte_multiplicity k m some few)
  where
    more : (q : ℕ) → 1 ≤ q + 1
    more q = omega arith

-- then the degree is small too
pub degree-in_range : (h m d : ℕ) → h ≤ 255 → m ≤ 255 → d + 1 ≡ h * m → d ≤ MOST_WEIGHTED_DEGREE
degree-in_range h m d few small e = let l : h * m ≤ 255 * 255 = products h m 255 255 few small in omega (arith, l, e)

-- ---- where 2 h is more than k + t

-- with as many answers as there can be
room : (t g r : ℕ) → r < g → t ≤ 255 → 16 * (t * r) < 15 * (t * g) + 15 * (g * g)
room t g r less few =
    let w : t * (r + 1) ≤ t * g = mul-le-mul_left t (omega (arith, less)) in
    elim (cases_lt r 16) [
      | inl small ↦
          let u : t * r ≤ t * 15 = mul-le-mul_left t (omega (arith, small)) in
          let v : g * 1 ≤ g * g = mul-le-mul_left g (omega (arith, less)) in
          omega (arith, less, w, u, v)
      | inr large ↦
          let u : r * t ≤ r * 255 = mul-le-mul_left r few in
          let v : g * 17 ≤ g * g = mul-le-mul_left g (omega (arith, large, less)) in
          omega (arith, less, w, u, v)
    ]

-- h is t + g, and k is h + r
fifteenfold : (k t h g r d : ℕ) → h ≡ t + g → k ≡ t + g + r → h * h ≡ k * t + d → r < g → k ≤ 255 → t * r < 15 * d
fifteenfold k t h g r d eh ek square less few =
    let e1 = ap (λ (x : ℕ). x * x) eh in
    let e2 = ap (λ (x : ℕ). x * t) ek in
    let e3 = room t g r less (omega (arith, ek, few)) in
    omega (arith, e1, e2, e3, square)

-- then the multiplicity is 15 at most
pub close_mult : (k t h : ℕ) → h ≤ k → k ≤ MOST_POINTS → k + t < 2 * h → k * t < h * h → mult k t h ≤ 15
unfolding mult
close_mult k t h within few close strong =
    let d : ℕ = h * h - k * t in
    let e : h * h ≡ k * t + d = omega arith in
    let past = fifteenfold k t h (h - t) (k - h) d (omega arith) (omega arith) e (omega arith) few in
    let q : t * (k - h) / d ≤ 14 = quotient_below (t * (k - h)) d 14 past in
    omega (arith, q)

-- and the cost small
pub close_is_cheap : (k t h : ℕ) → h ≤ k → k ≤ MOST_POINTS → k + t < 2 * h → k * t < h * h → cost k t h ≤ MOST_COST
close_is_cheap k t h within few close strong =
    let m = close_mult k t h within few close strong in
    halved (k * mult k t h * (mult k t h + 1)) (equations k (mult k t h) few m)
  where
    equations : (k m : ℕ) → k ≤ 255 → m ≤ 15 → k * m * (m + 1) ≤ 255 * 15 * 16
    equations k m few small =
        products (k * m) (m + 1) (255 * 15) 16 (products k m 255 15 few small) (omega (arith, small))

    halved : (q : ℕ) → q ≤ 255 * 15 * 16 → q / 2 ≤ MOST_COST
    halved q l = omega (arith, l)
