-- Linear combinations of polynomials: their coefficients and their values.
use Rattle.std.proofs.Common.{◌≡◌, ℕ, ◌<◌, List, [], length, map, get_or, All, sym, ap, subst, ◌∙◌, arith}
use Rattle.std.specs.List.{range_with_len}
use Rattle.std.proofs.lemmas.List.FromFn.{length-map-range_with_len, get_or-map-range_with_len}
use Rattle.std.proofs.lemmas.List.Elements.{All-from_get_or}
use Rattle.gf256.specs.Field.{◌⊗◌, power}
use Rattle.gf256.specs.Sums.{sum_to}
use Rattle.gf256.specs.Polynomial.{coef, val}
use Rattle.gf256.proofs.FieldLaws.{mul_lt, mul_comm, mul_assoc}
use Rattle.gf256.proofs.Sums.{sum_to-same, sum_to-lt, sum_to-swap, sum_to-mul}

-- coefficient e of polynomial j times its factor
term : List (List ℕ) → List ℕ → ℕ → ℕ → ℕ
term polynomials factors e j = coef (get_or polynomials j []) e ⊗ get_or factors j 0

-- the sum of the polynomials, each times its factor, as n coefficients
pub combined : List (List ℕ) → List ℕ → ℕ → List ℕ
combined polynomials factors n = map (λ e. sum_to (term polynomials factors e) (length polynomials)) (range_with_len 0 n)

-- it has n coefficients
pub length-combined : (polynomials : List (List ℕ)) (factors : List ℕ) (n : ℕ) → length (combined polynomials factors n) ≡ n
unfolding combined
length-combined polynomials factors n = length-map-range_with_len (λ e. sum_to (term polynomials factors e) (length polynomials)) 0 n

-- a coefficient is the sum of the polynomials' coefficients, each times its factor
pub coef-combined : (polynomials : List (List ℕ)) (factors : List ℕ) (n e : ℕ) → e < n
    → coef (combined polynomials factors n) e ≡ sum_to (λ j. coef (get_or polynomials j []) e ⊗ get_or factors j 0) (length polynomials)
unfolding combined coef term
coef-combined polynomials factors n e l = get_or-map-range_with_len (λ e. sum_to (term polynomials factors e) (length polynomials)) 0 n e e 0 l (omega arith)

-- and a byte
pub bytes-combined : (polynomials : List (List ℕ)) (factors : List ℕ) (n : ℕ) → All (λ c. c < 256) (combined polynomials factors n)
unfolding combined term
bytes-combined polynomials factors n =
    All-from_get_or (λ c. c < 256) (combined polynomials factors n) 0 (λ e l.
    let m = length-combined polynomials factors n in
    let k : e < n = omega (arith, l, m) in
    subst (λ (c : ℕ). c < 256) (sym (get_or-map-range_with_len (λ e. sum_to (term polynomials factors e) (length polynomials)) 0 n e e 0 k (omega arith)))
    (sum_to-lt (term polynomials factors e) (length polynomials) (λ j h. mul_lt (coef (get_or polynomials j []) e) (get_or factors j 0))))

-- the value is the sum of the polynomials' values, each times its factor
pub val-combined : (polynomials : List (List ℕ)) (factors : List ℕ) (n a : ℕ) → All (λ p. length p ≡ n) polynomials
    → val (combined polynomials factors n) a ≡ sum_to (λ j. val (get_or polynomials j []) a ⊗ get_or factors j 0) (length polynomials)
unfolding val term
val-combined polynomials factors n a sizes =
    let m = length polynomials in
    ap (sum_to (λ e. coef (combined polynomials factors n) e ⊗ power a e)) (length-combined polynomials factors n)
    ∙ sum_to-same (λ e. coef (combined polynomials factors n) e ⊗ power a e) (λ e. sum_to (λ j. term polynomials factors e j ⊗ power a e) m) n
    (λ e l. ap (λ c. c ⊗ power a e) (coef-combined polynomials factors n e l) ∙ sum_to-mul (power a e) (term polynomials factors e) m)
    ∙ sum_to-swap (λ e j. term polynomials factors e j ⊗ power a e) n m
    ∙ sum_to-same (λ j. sum_to (λ e. term polynomials factors e j ⊗ power a e) n) (λ j. sum_to (λ e. coef (get_or polynomials j []) e ⊗ power a e) (length (get_or polynomials j [])) ⊗ get_or factors j 0) m
    (λ j l.
    sum_to-same (λ e. term polynomials factors e j ⊗ power a e) (λ e. coef (get_or polynomials j []) e ⊗ power a e ⊗ get_or factors j 0) n
    (λ e h. mul_assoc (coef (get_or polynomials j []) e) (get_or factors j 0) (power a e) ∙ ap (λ x. coef (get_or polynomials j []) e ⊗ x) (mul_comm (get_or factors j 0) (power a e)) ∙ sym (mul_assoc (coef (get_or polynomials j []) e) (power a e) (get_or factors j 0)))
    ∙ sym (sum_to-mul (get_or factors j 0) (λ e. coef (get_or polynomials j []) e ⊗ power a e) n)
    ∙ ap (λ k. sum_to (λ e. coef (get_or polynomials j []) e ⊗ power a e) k ⊗ get_or factors j 0) (sym (sizes j [] l)))
