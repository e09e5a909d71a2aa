-- The conditions of a zero at one point, one after the other.
use Rattle.std.proofs.Common.{◌≡◌, ◌⊎◌, ℕ, zero, suc, ◌+◌, ◌-◌, ◌*◌, ◌/◌, ◌<◌, ◌≤◌, length, sum, refl, sym, ap, subst, ◌∙◌, arith, inl, inr}
use Rattle.std.proofs.Math.Nat.{mul-le-mul_right}
use Rattle.std.proofs.lemmas.Bool.{cases_lt, cases_eq}
use Rattle.interpolation.specs.Monomials.{conditions}
use Rattle.gs_interpolate.specs.Basis.{Polynomials, with_rows, HaveZero, IsBasis, IsImposed, IsPassing}
use Rattle.gs_interpolate.specs.declared.condition.Condition.{Condition}
use Rattle.gs_interpolate.proofs.Imposing.{Vanish, imposed-size, imposed-basis, imposed-kept, imposed-gained}

-- how many orders (u, v) with u + v < m have their v below n
unfoldable pub orders : ℕ → ℕ → ℕ
orders m zero = 0
orders m (suc n) = orders m n + (m - n)

-- one more v
pub orders-next : (m n k : ℕ) → k ≡ n + 1 → orders m k ≡ orders m n + (m - n)
unfolding orders
orders-next m n zero e = absurd (omega arith)
orders-next m n (suc k) e = let same : k ≡ n = omega arith in ap (λ i. orders m i + (m - i)) same

-- they grow
pub orders_le : (m n k : ℕ) → n ≤ k → orders m n ≤ orders m k
unfolding orders
orders_le m n zero l = let same : n ≡ 0 = omega arith in let e = ap (orders m) same in omega arith
orders_le m n (suc k) l =
    elim (cases_lt n (suc k)) [
      | inl h ↦ let ih = orders_le m n k (omega arith) in omega arith
      | inr h ↦ let same : n ≡ suc k = omega arith in let e = ap (orders m) same in omega arith
    ]

-- twice as many
orders-twice : (m n : ℕ) → n ≤ m → 2 * orders m n + n * n ≡ 2 * (m * n) + n
unfolding orders
orders-twice m zero l = omega arith
orders-twice m (suc n) l =
    let ih = orders-twice m n (omega arith) in
    omega arith

-- together they are the conditions of one zero
twice_all : (m : ℕ) → 2 * orders m m ≡ m * (m + 1)
twice_all m = let e = orders-twice m m (omega arith) in omega arith

-- half of twice as many
half : (x y : ℕ) → y ≡ 2 * x → y / 2 ≡ x
half x y e = omega arith

-- those of several zeros
pub conditions-orders : (k m : ℕ) → conditions k m ≡ k * orders m m
conditions-orders k m =
    let e = ap (λ x. k * x) (twice_all m) in
    half (k * orders m m) (k * m * (m + 1)) (omega arith)

-- those of one zero
pub conditions-one : (m : ℕ) → conditions 1 m ≡ orders m m
conditions-one m = conditions-orders 1 m ∙ omega arith

-- one point more
pub conditions-next : (k m : ℕ) → conditions (k + 1) m ≡ conditions k m + conditions 1 m
conditions-next k m =
    let e = conditions-orders (k + 1) m in
    let f = conditions-orders k m in
    let g = conditions-one m in
    omega arith

-- nor are those of so many zeros and of one more ever more than those of more zeros
pub conditions-more : (i k m : ℕ) → i < k → conditions i m + conditions 1 m ≤ conditions k m
conditions-more i k m l =
    let e = conditions-orders i m in
    let f = conditions-orders k m in
    let g = conditions-one m in
    let more : (i + 1) * orders m m ≤ k * orders m m = mul-le-mul_right (orders m m) (omega arith) in
    omega (arith, e, f, g, more)

-- before the last of the orders of a zero there are fewer than its conditions
pub orders-left : (m u v : ℕ) → u + v < m → orders m v + u < conditions 1 m
orders-left m u v l =
    let next = orders-next m v (v + 1) refl in
    let grows = orders_le m (v + 1) m (omega (arith, l)) in
    let all = conditions-one m in
    omega (arith, next, grows, all, l)

-- What the polynomials s became under the conditions that come before c at its point: first those of the rows of a zero of
-- multiplicity m before its row, and then those of its row before it.
pub record IsUnder (s made : Polynomials) (c : Condition) (m : ℕ) : Type 0 where
  pub alike : made ≡ with_rows s made.rows made.exponents
  pub size : length made.rows ≡ length s.rows
  pub basis : IsBasis made
  pub zeros : (i w : ℕ) → i + w < m → (w < c.v) ⊎ ((w ≡ c.v) × (i < c.u)) → Vanish made i w c.a c.b
  pub kept : (x y k : ℕ) → HaveZero s x y k → HaveZero made x y k

-- none yet
pub under-none : (s : Polynomials) (c : Condition) (m : ℕ) → c.u ≡ 0 → c.v ≡ 0 → IsBasis s → IsUnder s s c m
under-none s c m first row basis = record {
  alike = refl;
  size = refl;
  basis = basis;
  zeros = λ i w l o. absurd (elim o [ inl x ↦ omega (arith, row, x) | inr x ↦ omega (arith, first, x.1) ]);
  kept = λ x y k z. z;
}

-- one more
module _ {s mid made : Polynomials} {c : Condition} {m : ℕ} (h : IsUnder s mid c m) (l : c.u + c.v < m) (is : IsImposed mid made c) where
  -- in the row of c the derivatives before it stay 0, and its own becomes 0
  zeros-here : (i : ℕ) → i < c.u + 1 → i + c.v < m → Vanish made i c.v c.a c.b
  zeros-here i next k =
      elim (cases_eq i c.u) [
        | inl same ↦
            subst (λ i. Vanish made i c.v c.a c.b) (sym same)
            (imposed-gained h.basis is (λ o e. h.zeros o c.v (omega (arith, e, l)) (inr (refl, omega (arith, e)))))
        | inr other ↦
            imposed-kept h.basis is i c.v c.a c.b
            (h.zeros i c.v k (inr (refl, omega (arith, next, other))))
            (λ o e. h.zeros o c.v (omega (arith, e, k)) (inr (refl, omega (arith, e, next))))
      ]

  -- in the rows before it they stay 0
  zeros-below : (i w : ℕ) → w < c.v → i + w < m → Vanish made i w c.a c.b
  zeros-below i w below k =
      imposed-kept h.basis is i w c.a c.b (h.zeros i w k (inl below)) (λ o e. h.zeros o w (omega (arith, e, k)) (inl below))

  -- so all conditions up to c hold
  pub under-imposed : IsUnder s made (record c { u = c.u + 1 }) m
  under-imposed = record {
    alike = is.alike ∙ ap (λ g. with_rows g made.rows made.exponents) h.alike;
    size = imposed-size h.basis is ∙ h.size;
    basis = imposed-basis h.basis is;
    zeros = λ i w k o.
        elim o [
          | inl below ↦ zeros-below i w below k
          | inr row ↦
              subst (λ w. Vanish made i w c.a c.b) (sym row.0)
              (zeros-here i row.1 (let same = row.0 in omega (arith, same, k)))
        ];
    kept = λ x y k z j inside light i w order.
        imposed-kept h.basis is i w x y
        (λ g q still. h.kept x y k z g q still i w order)
        (λ o e g q still. h.kept x y k z g q still o w (omega (arith, e, order)))
        j inside light;
  }

-- all of one row
pub under-row : (s made : Polynomials) (c : Condition) (m : ℕ) → IsUnder s made c m → c.u ≡ m - c.v
    → IsUnder s made (record c { u = 0; v = c.v + 1 }) m
under-row s made c m h e = record {
  alike = h.alike;
  size = h.size;
  basis = h.basis;
  zeros = λ i w k o.
      h.zeros i w k
      (elim (cases_lt w c.v) [
        | inl below ↦ inl below
        | inr past ↦
            let same : w ≡ c.v = elim o [ inl x ↦ omega (arith, past, x) | inr x ↦ absurd (omega (arith, x.1)) ] in
            inr (same, omega (arith, same, e, k))
      ]);
  kept = h.kept;
}

-- all, where the exponents rose by no more than one for each
pub under-all : (s made : Polynomials) (c : Condition) (m : ℕ) → IsUnder s made c m → c.u ≡ 0 → c.v ≡ m
    → sum made.exponents ≤ sum s.exponents + (orders m c.v + c.u) → IsPassing s made c.a c.b m
under-all s made c m h none e rise = record {
  alike = h.alike;
  size = h.size;
  basis = h.basis;
  zeros = λ j inside light i w k. h.zeros i w k (inl (omega (arith, e, k))) j inside light;
  kept = h.kept;
  rise = let all = conditions-one m in let same = ap (orders m) e in omega (arith, rise, all, same, none);
}
