-- The laws of the inner product.
use Rattle.std.proofs.Common.{◌≡◌, ◌≢◌, ℕ, zero, suc, ◌+◌, ◌<◌, List, length, get_or, set, refl, sym, ap, ap₂, ◌∙◌, arith, inl, inr, add-one, get_or-set_same, get_or-set_other}
use Rattle.std.proofs.lemmas.Bool.{cases_eq}
use Rattle.gf256.specs.Field.{◌⊕◌, ◌⊗◌}
use Rattle.gf256.specs.Sums.{sum_to}
use Rattle.gf256.proofs.Xor.{sums}
use Rattle.gf256.proofs.FieldLaws.{ring, mul_zero, zero_mul, mul_add, add_mul, mul_assoc, one_mul, mul_lt}
use Rattle.gf256.proofs.Sums.{sum_to-same, sum_to-add, mul-sum_to, sum_to-zero, sum_to-lt}
use Rattle.linear_solve.specs.Kernel.{component, inner}

-- one more term
pub inner-next : (f : ℕ → ℕ) (v : List ℕ) (k : ℕ) → inner f v (k + 1) ≡ inner f v k ⊕ f k ⊗ component v k
unfolding inner sum_to
inner-next f v k = ap (sum_to (λ k. f k ⊗ component v k)) (add-one k)

-- no term
pub inner-none : (f : ℕ → ℕ) (v : List ℕ) → inner f v 0 ≡ 0
unfolding inner sum_to
inner-none f v = refl

-- inner products are bytes
pub inner_lt : (f : ℕ → ℕ) (v : List ℕ) (n : ℕ) → inner f v n < 256
unfolding inner
inner_lt f v n = sum_to-lt _ n (λ i l. mul_lt (f i) (component v i))

-- two rows that agree
pub inner-same : (f g : ℕ → ℕ) (v : List ℕ) (n : ℕ) → ((k : ℕ) → k < n → f k ≡ g k) → inner f v n ≡ inner g v n
unfolding inner
inner-same f g v n h = sum_to-same _ _ n (λ k l. ap (λ x. x ⊗ component v k) (h k l))

-- a row of zeros
pub inner-zero : (f : ℕ → ℕ) (v : List ℕ) (n : ℕ) → ((k : ℕ) → f k ≡ 0) → inner f v n ≡ 0
unfolding inner
inner-zero f v n h = sum_to-zero _ n (λ k l. ap (λ x. x ⊗ component v k) (h k) ∙ zero_mul _)

-- a row to which a multiple of another was added
pub inner-multiple_added : (f g h : ℕ → ℕ) (c : ℕ) (v : List ℕ) (n : ℕ) → ((k : ℕ) → f k ≡ g k ⊕ c ⊗ h k) → inner f v n ≡ inner g v n ⊕ c ⊗ inner h v n
unfolding inner
inner-multiple_added f g h c v n e =
    sum_to-same (λ k. f k ⊗ component v k) (λ k. g k ⊗ component v k ⊕ c ⊗ (h k ⊗ component v k)) n
    (λ k l. ap (λ x. x ⊗ component v k) (e k) ∙ add_mul _ _ _ ∙ ap (◌⊕◌ (g k ⊗ component v k)) (mul_assoc c (h k) (component v k)))
    ∙ sum_to-add _ _ n ∙ ap (◌⊕◌ (sum_to (λ k. g k ⊗ component v k) n)) (sym (mul-sum_to c _ n))

-- a row that was multiplied by a factor
pub inner-scaled : (f g : ℕ → ℕ) (c : ℕ) (v : List ℕ) (n : ℕ) → ((k : ℕ) → f k ≡ g k ⊗ c) → inner f v n ≡ c ⊗ inner g v n
unfolding inner
inner-scaled f g c v n e =
    sum_to-same (λ k. f k ⊗ component v k) (λ k. c ⊗ (g k ⊗ component v k)) n (λ k l. ap (λ x. x ⊗ component v k) (e k) ∙ simp ring)
    ∙ sym (mul-sum_to c _ n)

-- where the factor has an inverse, a vector that the multiple sends to zero is sent there by the row
pub unscaled : (f g : ℕ → ℕ) (a c : ℕ) (v : List ℕ) (n : ℕ) → ((k : ℕ) → f k ≡ g k ⊗ c) → a ⊗ c ≡ 1 → inner f v n ≡ 0 → inner g v n ≡ 0
unscaled f g a c v n e o z =
    sym (one_mul _ (inner_lt g v n)) ∙ ap (λ x. x ⊗ inner g v n) (sym o) ∙ mul_assoc a c (inner g v n) ∙ ap (◌⊗◌ a) (sym (inner-scaled f g c v n e) ∙ z) ∙ mul_zero a

-- a sum of which one term changed
sum_to-change : (f g : ℕ → ℕ) (c n : ℕ) → c < n → ((k : ℕ) → k ≢ c → f k ≡ g k) → sum_to f n ≡ sum_to g n ⊕ (f c ⊕ g c)
unfolding sum_to
sum_to-change f g c zero l h = absurd (omega arith)
sum_to-change f g c (suc n) l h =
    elim (cases_eq c n) [
      | inl e ↦
          let same = sum_to-same f g n (λ k m. h k (omega arith)) in
          ap₂ ◌⊕◌ same (ap f (sym e)) ∙ (simp sums) ∙ ap (λ k. sum_to g n ⊕ g k ⊕ (f c ⊕ g c)) e
      | inr d ↦
          let ih = sum_to-change f g c n (omega arith) h in
          ap₂ ◌⊕◌ ih (h n (λ e. d (sym e))) ∙ simp sums
    ]

-- a vector of which one component changed
pub inner-set : (f : ℕ → ℕ) (v : List ℕ) (c d n : ℕ) → c < n → c < length v → inner f (set v c d) n ≡ inner f v n ⊕ f c ⊗ (d ⊕ component v c)
unfolding inner component
inner-set f v c d n l m =
    sum_to-change (λ k. f k ⊗ get_or (set v c d) k 0) (λ k. f k ⊗ get_or v k 0) c n l (λ k e. ap (◌⊗◌ (f k)) (get_or-set_other v c k d 0 e))
    ∙ ap (λ x. sum_to (λ k. f k ⊗ get_or v k 0) n ⊕ (f c ⊗ x ⊕ f c ⊗ get_or v c 0)) (get_or-set_same v c d 0 m)
    ∙ ap (◌⊕◌ (sum_to (λ k. f k ⊗ get_or v k 0) n)) (sym (mul_add (f c) d (get_or v c 0)))
