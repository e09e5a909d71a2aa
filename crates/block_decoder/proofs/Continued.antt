-- The blocks that polynomials can be continued to, one column at a time.
use Rattle.std.proofs.Common.{◌≡◌, ◌⊎◌, ◌↔◌, ℕ, zero, suc, ◌+◌, ◌<◌, ◌≤◌, List, [], ◌∷◌, ◌++◌, length, All, Contains, refl, sym, ap, subst, ◌∙◌, inl, inr, arith, append_assoc, append-nil}
use Rattle.std.proofs.lemmas.List.{length-append}
use Rattle.std.proofs.lemmas.List.Elements.{All-nil, All-cons, All-head, All-tail, Contains-append_left, Contains-append_right, Contains-append_cases}
use Rattle.gf256.specs.Polynomial.{IsPolynomial}
use Rattle.block_decoder.specs.Agreed.{weight, constants_of, Filled, Heavy}
use Rattle.block_decoder.specs.Narrowing.{holding, points_of, ContinuesFrom, ContinuesBy, ListsIn}
use Rattle.block_decoder.specs.declared.decoding.Decoding.{Decoding}
use Rattle.block_decoder.proofs.Holding.{weight-more}
use Rattle.block_decoder.proofs.Weight.{weight-append}

-- a list of one has that one
pub Contains-one : {X : Type 0} (x y : X) → Contains (x ∷ []) y → y ≡ x
Contains-one x y (zero, within, is) = sym is
Contains-one x y (suc i, within, is) = absurd (omega (arith, within))

module _ {X : Type 0} (made : List (List ℕ) → X) (d : Decoding) (v : List (List ℕ)) where
  -- a vector with a polynomial for each column has itself alone
  pub continues-whole : length v ≡ d.width → d.agreement ≤ weight v d.answers → (b : X)
      → (b ≡ made v) ↔ ContinuesFrom made d v b
  continues-whole whole enough b = (
    λ e. record {
      more = [];
      one_a_column = omega (arith, whole);
      degree = All-nil (IsPolynomial d.degree);
      enough = subst (λ ps. d.agreement ≤ weight ps d.answers) (sym (append-nil v)) enough;
      is = e ∙ ap made (sym (append-nil v));
    },
    λ c. alone c.more c.one_a_column c.is,
  )
    where
      alone : {b : X} (more : List (List ℕ)) → length v + length more ≡ d.width → b ≡ made (v ++ more)
          → b ≡ made v
      alone [] e constants = constants ∙ ap made (append-nil v)
      alone (p ∷ more) e constants = absurd (omega (arith, whole, e))

  -- there is none where too few answers are left
  pub continues-light : weight v d.answers < d.agreement → (b : X) → ContinuesFrom made d v b → ⊥
  continues-light light b c =
      let fewer = weight-append v c.more d.answers in
      let enough = c.enough in
      omega (arith, fewer, enough, light)

  -- one polynomial more may be left away
  pub continues-before : (p : List ℕ) (b : X) → IsPolynomial d.degree p
      → ContinuesFrom made d (v ++ p ∷ []) b → ContinuesFrom made d v b
  continues-before p b is c =
      let e = append_assoc v (p ∷ []) c.more in
      let n = length-append v (p ∷ []) in
      let columns = c.one_a_column in
      record {
        more = p ∷ c.more;
        one_a_column = omega (arith, n, columns);
        degree = All-cons (IsPolynomial d.degree) p c.more is c.degree;
        enough = subst (λ ps. d.agreement ≤ weight ps d.answers) e c.enough;
        is = c.is ∙ ap made e;
      }

  -- a shorter one is continued by some polynomial
  pub continues-next : length v < d.width → (b : X) → ContinuesFrom made d v b →
      (p : List ℕ) × IsPolynomial d.degree p × ContinuesFrom made d (v ++ p ∷ []) b
  continues-next short b c = first c.more c.one_a_column c.degree c.enough c.is
    where
      first : {b : X} (more : List (List ℕ)) → length v + length more ≡ d.width → All (IsPolynomial d.degree) more
          → d.agreement ≤ weight (v ++ more) d.answers → b ≡ made (v ++ more) →
          (p : List ℕ) × IsPolynomial d.degree p × ContinuesFrom made d (v ++ p ∷ []) b
      first [] columns degree enough constants = absurd (omega (arith, short, columns))
      first (p ∷ more) columns degree enough constants =
          let e = append_assoc v (p ∷ []) more in
          let l = length-append v (p ∷ []) in (
            p,
            All-head (IsPolynomial d.degree) p more degree,
            record {
              more = more;
              one_a_column = omega (arith, l, columns);
              degree = All-tail (IsPolynomial d.degree) p more degree;
              enough = subst (λ ps. d.agreement ≤ weight ps d.answers) (sym e) enough;
              is = constants ∙ ap made (sym e);
            },
          )

  -- and by one of those that agree with enough of its points in the next column
  pub continues-by : Filled d.width d.answers → length v < d.width → (nexts : List (List ℕ))
      → ListsIn d (points_of (holding v d.answers) (length v)) nexts → (b : X)
      → ContinuesBy made nexts d v b ↔ ContinuesFrom made d v b
  continues-by filled short nexts lists b = (
    λ c. continues-before c.next b ((lists.exact c.next).0 c.listed).0 c.continues,
    λ c.
        let (p, is, further) = continues-next short b c in
        let fewer = weight-append (v ++ p ∷ []) further.more d.answers in
        let enough = further.enough in
        let many = weight-more d.answers d.width (length v) v p filled refl short in
        record { next = p; listed = (lists.exact p).1 (is, omega (arith, enough, fewer, many)); continues = further },
  )

  -- where one polynomial alone agrees, it is the next
  pub continues-one : Filled d.width d.answers → length v < d.width → (p : List ℕ)
      → ListsIn d (points_of (holding v d.answers) (length v)) (p ∷ []) → (b : X)
      → ContinuesFrom made d (v ++ p ∷ []) b ↔ ContinuesFrom made d v b
  continues-one filled short p lists b =
      let by = continues-by filled short (p ∷ []) lists b in (
        λ c. by.0 (record { next = p; listed = (0, omega arith, refl); continues = c }),
        λ c. let one = by.1 c in subst (λ q. ContinuesFrom made d (v ++ q ∷ []) b) (Contains-one p one.next one.listed) one.continues,
      )

  -- by none of no polynomials
  pub continues-by_none : (b : X) → ContinuesBy made [] d v b → ⊥
  continues-by_none b c = let l = c.listed.1 in absurd (omega (arith, l))

  -- by one of these or by one more
  pub continues-by_more : (nexts : List (List ℕ)) (p : List ℕ) (b : X)
      → ContinuesBy made (nexts ++ p ∷ []) d v b ↔ (ContinuesBy made nexts d v b ⊎ ContinuesFrom made d (v ++ p ∷ []) b)
  continues-by_more nexts p b = (
    λ c. elim (Contains-append_cases nexts (p ∷ []) c.next c.listed) [
      | inl before ↦ inl (record { next = c.next; listed = before; continues = c.continues })
      | inr last ↦ inr (subst (λ q. ContinuesFrom made d (v ++ q ∷ []) b) (Contains-one p c.next last) c.continues)
    ],
    λ either. elim either [
      | inl c ↦ record { next = c.next; listed = Contains-append_left nexts (p ∷ []) c.next c.listed; continues = c.continues }
      | inr c ↦ record { next = p; listed = Contains-append_right nexts (p ∷ []) p (0, omega arith, refl); continues = c }
    ],
  )

-- the empty vector is continued to the heavy ones
pub continues-Heavy : (d : Decoding) (b : List ℕ)
    → ContinuesFrom constants_of d [] b ↔ Heavy d.answers d.width d.degree d.agreement b
continues-Heavy d b = (
  λ c. record { polynomials = c.more; one_a_column = let e = c.one_a_column in omega (arith, e); degree = c.degree; enough = c.enough; constants = c.is },
  λ a. record { more = a.polynomials; one_a_column = let e = a.one_a_column in omega (arith, e); degree = a.degree; enough = a.enough; is = a.constants },
)
