-- The steps that take one more row into an echelon form.
use Rattle.std.proofs.Common.{◌≡◌, ℕ, ◌+◌, ◌<◌, List, [], ◌∷◌, ◌++◌, length, get_or, refl, sym, ap, ap₂, subst, ◌∙◌, arith, inl, inr, length-append}
use Rattle.std.proofs.lemmas.Bool.{cases_lt}
use Rattle.std.proofs.lemmas.List.{get_or_append_left, get_or_at}
use Rattle.gf256.specs.Field.{◌⊕◌, ◌⊗◌}
use Rattle.gf256.proofs.Xor.{add_zero, zero_add}
use Rattle.gf256.proofs.FieldLaws.{ring, mul_zero, mul_one}
use Rattle.linear_solve.specs.Kernel.{component, inner}
use Rattle.linear_solve.specs.Echelon.{row_at, IsMultipleAdded, IsEchelon, SendToZero, IsReduced, IsTaken}
use Rattle.linear_solve.proofs.InnerProducts.{inner-multiple_added}

-- a byte to which its product with a 1 is added
clears : (new old one : ℕ) → new < 256 → one ≡ 1 → new ≡ old ⊕ old ⊗ one → new ≡ 0
clears new old one h o e = sym (mul_one new h) ∙ ap (λ x. x ⊗ 1) (e ∙ ap (λ x. old ⊕ old ⊗ x) o) ∙ simp ring

-- what is clear stays clear where the row that is added is clear
pub stays_cleared : (new old other : List ℕ) (f c : ℕ) → IsMultipleAdded new old other f → component old c ≡ 0 → component other c ≡ 0 → component new c ≡ 0
stays_cleared new old other f c h o e = h c ∙ ap₂ (λ x y. x ⊕ f ⊗ y) o e ∙ ap (◌⊕◌ 0) (mul_zero f) ∙ zero_add 0

-- where the row that is added has 1, the right factor clears
pub gets_cleared : (new old other : List ℕ) (c : ℕ) → IsMultipleAdded new old other (component old c) → component other c ≡ 1 → component new c < 256 → component new c ≡ 0
gets_cleared new old other c h o b = clears (component new c) (component old c) (component other c) b o (h c)

-- adding a multiple of a row that sends v to zero changes no inner product with v
pub same_inner : (new old other v : List ℕ) (f n : ℕ) → IsMultipleAdded new old other f → inner (component other) v n ≡ 0 → inner (component new) v n ≡ inner (component old) v n
same_inner new old other v f n h z =
    inner-multiple_added (component new) (component old) (component other) f v n h
    ∙ ap (λ x. inner (component old) v n ⊕ f ⊗ x) z ∙ ap (◌⊕◌ (inner (component old) v n)) (mul_zero f) ∙ add_zero _

-- a row that was there
row-before : (rs : List (List ℕ)) (r : List ℕ) (t : ℕ) → t < length rs → row_at (rs ++ r ∷ []) t ≡ row_at rs t
unfolding row_at
row-before rs r t l = get_or_append_left rs (r ∷ []) [] t l

-- the row that was added
row-last : (rs : List (List ℕ)) (r : List ℕ) (t : ℕ) → t ≡ length rs → row_at (rs ++ r ∷ []) t ≡ r
unfolding row_at
row-last rs r t e = get_or_at rs r [] [] t (sym e)

-- a column that was there
column-before : (cs : List ℕ) (c t : ℕ) → t < length cs → get_or (cs ++ c ∷ []) t 0 ≡ get_or cs t 0
column-before cs c t l = get_or_append_left cs (c ∷ []) 0 t l

-- the column that was added
column-last : (cs : List ℕ) (c t : ℕ) → t ≡ length cs → get_or (cs ++ c ∷ []) t 0 ≡ c
column-last cs c t e = get_or_at cs c [] 0 t (sym e)

-- a reduced row is one more row of the echelon form
module _ (cs : List ℕ) (rs : List (List ℕ)) (r old : List ℕ) (c : ℕ) (E : IsEchelon cs rs (length old)) (R : IsReduced r old cs rs c) where
  longer : length (rs ++ r ∷ []) ≡ length rs + 1
  longer = length-append rs (r ∷ [])

  wide_at : (t : ℕ) → t < length (rs ++ r ∷ []) → length (row_at (rs ++ r ∷ []) t) ≡ length old
  wide_at t l =
      elim (cases_lt t (length rs)) [
        | inl b ↦ ap length (row-before rs r t b) ∙ E.wide t b
        | inr b ↦ let n = longer in ap length (row-last rs r t (omega arith)) ∙ R.long
      ]

  inside_at : (t : ℕ) → t < length (rs ++ r ∷ []) → get_or (cs ++ c ∷ []) t 0 < length old
  inside_at t l =
      let s = E.same in
      elim (cases_lt t (length rs)) [
        | inl b ↦ rw (column-before cs c t (omega arith)) (E.inside t b)
        | inr b ↦ let n = longer in rw (column-last cs c t (omega arith)) R.inside
      ]

  one_at : (t : ℕ) → t < length (rs ++ r ∷ []) → component (row_at (rs ++ r ∷ []) t) (get_or (cs ++ c ∷ []) t 0) ≡ 1
  one_at t l =
      let s = E.same in
      elim (cases_lt t (length rs)) [
        | inl b ↦ ap₂ component (row-before rs r t b) (column-before cs c t (omega arith)) ∙ E.one t b
        | inr b ↦ let n = longer in ap₂ component (row-last rs r t (omega arith)) (column-last cs c t (omega arith)) ∙ R.one
      ]

  none_at : (s t : ℕ) → s < t → t < length (rs ++ r ∷ []) → component (row_at (rs ++ r ∷ []) t) (get_or (cs ++ c ∷ []) s 0) ≡ 0
  none_at s t h l =
      let same = E.same in
      elim (cases_lt t (length rs)) [
        | inl b ↦ ap₂ component (row-before rs r t b) (column-before cs c s (omega arith)) ∙ E.none s t h b
        | inr b ↦ let n = longer in ap₂ component (row-last rs r t (omega arith)) (column-before cs c s (omega arith)) ∙ R.none s (omega arith)
      ]

  sends_before : (v : List ℕ) → SendToZero (rs ++ r ∷ []) (length old) v → SendToZero rs (length old) v
  sends_before v k t l = let n = longer in ap (λ x. inner (component x) v (length old)) (sym (row-before rs r t l)) ∙ k t (omega arith)

  taken : IsTaken (cs ++ c ∷ []) (rs ++ r ∷ []) rs old
  taken = record {
    echelon = record {
      same = length-append cs (c ∷ []) ∙ ap (λ n. n + 1) E.same ∙ sym longer;
      wide = wide_at;
      inside = inside_at;
      one = one_at;
      none = none_at;
    };
    grows = let n = longer in omega arith;
    sends_to_zero = λ v k.
        let b = sends_before v k in
        let n = longer in
        (b, R.stands v b (ap (λ x. inner (component x) v (length old)) (sym (row-last rs r (length rs) refl)) ∙ k (length rs) (omega arith)));
  }

-- a row that is a combination of the others needs no row of its own
pub not_taken : (cs : List ℕ) (rs : List (List ℕ)) (old : List ℕ) → IsEchelon cs rs (length old)
    → ((v : List ℕ) → SendToZero rs (length old) v → inner (component old) v (length old) ≡ 0) → IsTaken cs rs rs old
not_taken cs rs old e h = record { echelon = e; grows = omega arith; sends_to_zero = λ v k. (k, h v k) }

-- the same over lists that are known by equations
pub taken_by : (cs cs' : List ℕ) (rs rs' : List (List ℕ)) (r new old row : List ℕ) (c : ℕ)
    → IsEchelon cs rs (length row) → IsReduced new old cs rs c → old ≡ row → r ≡ new
    → cs' ≡ cs ++ c ∷ [] → rs' ≡ rs ++ r ∷ [] → IsTaken cs' rs' rs row
taken_by cs cs' rs rs' r new old row c E R eo er f g =
    let R₁ = subst (λ o. IsReduced new o cs rs c) eo R in
    let R₂ = subst (λ k. IsReduced k row cs rs c) (sym er) R₁ in
    let t = taken cs rs r row c E R₂ in
    subst (λ k. IsTaken k rs' rs row) (sym f) (subst (λ k. IsTaken (cs ++ c ∷ []) k rs row) (sym g) t)
