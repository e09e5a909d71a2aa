-- Rows that wait, and what they give.
use Rattle.std.proofs.Common.{◌≡◌, ◌≢◌, ℕ, zero, suc, ◌+◌, ◌<◌, List, [], ◌∷◌, length, slice_index, slice_index_or, slice_set, drop, replicate, Option, None, Some, refl, sym, ap, ap₂, subst, ◌∙◌, arith, add-one, inl, inr}
use Rattle.std.proofs.lemmas.Bool.{cases_lt}
use Rattle.std.proofs.lemmas.List.{get_or-set_same, get_or-set_other}
use Rattle.gf256.specs.Field.{◌⊕◌, ◌⊗◌}
use Rattle.gf256.proofs.Xor.{sums, add_assoc, add_zero}
use Rattle.gf256.proofs.FieldLaws.{mul_add}
use Rattle.server_product.specs.Runs.{term}
use Rattle.server_product.specs.Trios.{trio_at}
use Rattle.server_product.specs.Gathered.{few_sum, three_sum, waiting_sum, AreOf, FewAreOf, HeldAreAlike, HeldAreRows}
use Rattle.server_product.specs.declared.gather.Three.{Three}
use Rattle.server_product.specs.declared.trios.Trio.{Trio}
use Rattle.server_product.specs.declared.gather.UpToThree.{UpToThree}
use Rattle.server_product.specs.declared.gather.UpToThree.TheVariants.{Empty}

-- one that waits in place of another
pub waiting-set : (q : List ℕ) (rows : List (List ℕ)) (c : ℕ) (waiting : List UpToThree) (i : ℕ) (few : UpToThree) → i < length waiting
    → waiting_sum q rows c (slice_set waiting i few) ≡ waiting_sum q rows c waiting ⊕ few_sum q rows c (slice_index_or waiting i Empty) ⊕ few_sum q rows c few
unfolding waiting_sum
waiting-set q rows c [] i few l = absurd (omega arith)
waiting-set q rows c (x ∷ xs) zero few l = swapped (few_sum q rows c x) (few_sum q rows c few) (waiting_sum q rows c xs) where
  swapped : (x y w : ℕ) → y ⊕ w ≡ x ⊕ w ⊕ x ⊕ y
  swapped x y w = simp sums
waiting-set q rows c (x ∷ xs) (suc i) few l =
    ap (◌⊕◌ (few_sum q rows c x)) (waiting-set q rows c xs i few (omega arith))
    ∙ further (few_sum q rows c x) (waiting_sum q rows c xs) (few_sum q rows c (slice_index_or xs i Empty)) (few_sum q rows c few) where
      further : (x w y z : ℕ) → x ⊕ (w ⊕ y ⊕ z) ≡ x ⊕ w ⊕ y ⊕ z
      further x w y z = simp sums

-- the first that wait, and those after them
waiting_suc : (q : List ℕ) (rows : List (List ℕ)) (c : ℕ) (waiting : List UpToThree) (i : ℕ) → i < length waiting
    → waiting_sum q rows c (drop i waiting) ≡ few_sum q rows c (slice_index_or waiting i Empty) ⊕ waiting_sum q rows c (drop (suc i) waiting)
unfolding waiting_sum
waiting_suc q rows c [] i l = absurd (omega arith)
waiting_suc q rows c (x ∷ xs) zero l = refl
waiting_suc q rows c (x ∷ xs) (suc i) l = waiting_suc q rows c xs i (omega arith)

-- the same for the one at a place and those after it
pub waiting-next : (q : List ℕ) (rows : List (List ℕ)) (c : ℕ) (waiting : List UpToThree) (i : ℕ) → i < length waiting
    → waiting_sum q rows c (drop i waiting) ≡ few_sum q rows c (slice_index_or waiting i Empty) ⊕ waiting_sum q rows c (drop (i + 1) waiting)
waiting-next q rows c waiting i l =
    waiting_suc q rows c waiting i l
    ∙ ap (λ n. few_sum q rows c (slice_index_or waiting i Empty) ⊕ waiting_sum q rows c (drop n waiting)) (sym (add-one i))

-- past the last none wait
pub waiting-end : (q : List ℕ) (rows : List (List ℕ)) (c : ℕ) (waiting : List UpToThree) (n : ℕ) → n ≡ length waiting → waiting_sum q rows c (drop n waiting) ≡ 0
unfolding waiting_sum
waiting-end q rows c [] zero e = refl
waiting-end q rows c [] (suc n) e = refl
waiting-end q rows c (x ∷ xs) zero e = absurd (omega arith)
waiting-end q rows c (x ∷ xs) (suc n) e = waiting-end q rows c xs n (omega arith)

-- where none wait they give nothing
pub waiting-none : (q : List ℕ) (rows : List (List ℕ)) (c n : ℕ) → waiting_sum q rows c (replicate n Empty) ≡ 0
unfolding waiting_sum few_sum ◌⊕◌
waiting-none q rows c zero = refl
waiting-none q rows c (suc n) = waiting-none q rows c n

-- those that don't wait are of any factor
pub none-are : (q : List ℕ) (f n : ℕ) → FewAreOf q f (slice_index_or (replicate n Empty) f Empty)
none-are q f n = subst (FewAreOf q f) (sym (none_at n f)) (record {}) where
  -- each place of a list of nothing has nothing
  none_at : (n f : ℕ) → slice_index_or (replicate n Empty) f Empty ≡ Empty
  none_at zero f = refl
  none_at (suc n) zero = refl
  none_at (suc n) (suc f) = none_at n f

-- where a few come in that are of the factor of their place, all are of theirs
pub set-are-of : (q : List ℕ) (waiting : List UpToThree) (i n : ℕ) (few : UpToThree) → i < length waiting → FewAreOf q i few
    → ((f : ℕ) → f < n → FewAreOf q f (slice_index_or waiting f Empty)) → (f : ℕ) → f < n → FewAreOf q f (slice_index_or (slice_set waiting i few) f Empty)
set-are-of q waiting i n few room here before f l =
    elim (cases_lt f i) [
      | inl low ↦ other f (λ same. omega arith) (before f l)
      | inr high ↦
          elim (cases_lt i f) [
            | inl above ↦ other f (λ same. omega arith) (before f l)
            | inr back ↦
                let same : i ≡ f = omega arith in
                subst (λ k. FewAreOf q k (slice_index_or (slice_set waiting i few) k Empty)) same
                (subst (FewAreOf q i) (sym (get_or-set_same waiting i few Empty room)) here)
          ]
    ] where
      other : (f : ℕ) → f ≢ i → FewAreOf q f (slice_index_or waiting f Empty) → FewAreOf q f (slice_index_or (slice_set waiting i few) f Empty)
      other f apart are = subst (FewAreOf q f) (sym (get_or-set_other waiting i f few Empty apart)) are

-- three rows of one factor are of that of the first
pub alike : (q : List ℕ) (f : ℕ) (three : Three) → AreOf q f three → AreOf q (slice_index q three.a) three
alike q f three are = subst (λ g. AreOf q g three) (sym are.a.1) are

-- three rows of one factor are rows
pub are-rows : (q : List ℕ) (held : Option Three) → HeldAreAlike q held → HeldAreRows q held
are-rows q None alike = record {}
are-rows q (Some three) alike = (alike.a.0, alike.b.0, alike.c.0)

-- three rows of one factor are a trio
pub trio-is : (q : List ℕ) (rows : List (List ℕ)) (c : ℕ) (three : Three) (trio : Trio)
    → trio.a.now ≡ slice_index_or rows three.a [] → trio.b.now ≡ slice_index_or rows three.b []
    → trio.c.now ≡ slice_index_or rows three.c [] → trio.factor ≡ slice_index q three.a
    → AreOf q (slice_index q three.a) three → trio_at trio c ≡ three_sum q rows c three
unfolding trio_at three_sum term
trio-is q rows c three trio ea eb ec ef are =
    let at = λ (row : List ℕ). slice_index row c in
    ap₂ ◌⊗◌ ef (ap₂ ◌⊕◌ (ap₂ ◌⊕◌ (ap at ea) (ap at eb)) (ap at ec))
    ∙ mul_add (slice_index q three.a) (at (slice_index_or rows three.a []) ⊕ at (slice_index_or rows three.b [])) (at (slice_index_or rows three.c []))
    ∙ ap (λ s. s ⊕ slice_index q three.a ⊗ at (slice_index_or rows three.c [])) (mul_add (slice_index q three.a) (at (slice_index_or rows three.a [])) (at (slice_index_or rows three.b [])))
    ∙ ap₂ (λ fb fc. slice_index q three.a ⊗ at (slice_index_or rows three.a []) ⊕ fb ⊗ at (slice_index_or rows three.b []) ⊕ fc ⊗ at (slice_index_or rows three.c []))
    (sym are.b.1) (sym are.c.1)

-- one that joins those of its factor
pub joined-waiting : (x h w w' f f' t : ℕ) → w' ≡ w ⊕ f ⊕ f' → f' ≡ f ⊕ t → x ⊕ h ⊕ w' ≡ x ⊕ h ⊕ w ⊕ t
joined-waiting x h w w' f f' t ew ef =
    ap (◌⊕◌ (x ⊕ h)) (ew ∙ ap (◌⊕◌ (w ⊕ f)) ef) ∙ plain where
      plain : x ⊕ h ⊕ (w ⊕ f ⊕ (f ⊕ t)) ≡ x ⊕ h ⊕ w ⊕ t
      plain = simp sums

-- three that go, and one that waits in their place
pub three-gone : (x' h' x h w w' s t : ℕ) → x' ⊕ h' ≡ x ⊕ h ⊕ s → w' ≡ w ⊕ s ⊕ t → x' ⊕ h' ⊕ w' ≡ x ⊕ h ⊕ w ⊕ t
three-gone x' h' x h w w' s t ex ew = ap₂ ◌⊕◌ ex ew ∙ plain where
  plain : x ⊕ h ⊕ s ⊕ (w ⊕ s ⊕ t) ≡ x ⊕ h ⊕ w ⊕ t
  plain = simp sums

-- a sum that grew beside others
pub beside-held : (x' r' x h r t : ℕ) → x' ⊕ r' ≡ x ⊕ r ⊕ t → x' ⊕ h ⊕ r' ≡ x ⊕ h ⊕ r ⊕ t
beside-held x' r' x h r t e = turned ∙ ap (◌⊕◌ h) e ∙ back where
  turned : x' ⊕ h ⊕ r' ≡ h ⊕ (x' ⊕ r')
  turned = simp sums

  back : h ⊕ (x ⊕ r ⊕ t) ≡ x ⊕ h ⊕ r ⊕ t
  back = simp sums

-- the same where the others stand behind
pub beside-rest : (x' h' x h r t : ℕ) → x' ⊕ h' ≡ x ⊕ h ⊕ t → x' ⊕ h' ⊕ r ≡ x ⊕ h ⊕ r ⊕ t
beside-rest x' h' x h r t e = ap (λ s. s ⊕ r) e ∙ back where
  back : x ⊕ h ⊕ t ⊕ r ≡ x ⊕ h ⊕ r ⊕ t
  back = simp sums

-- nothing, and one
pub plus-none : (x t : ℕ) → x ⊕ t ≡ x ⊕ 0 ⊕ t
plus-none x t = ap (λ y. y ⊕ t) (sym (add_zero x))

-- one more of the rest
pub joined-rest : (x h f f' t : ℕ) → f' ≡ f ⊕ t → x ⊕ (h ⊕ f') ≡ x ⊕ (h ⊕ f) ⊕ t
joined-rest x h f f' t e = ap (λ y. x ⊕ (h ⊕ y)) e ∙ ap (◌⊕◌ x) (sym (add_assoc h f t)) ∙ sym (add_assoc x (h ⊕ f) t)

-- three of the rest that go, and one that is left in their place
pub three-go : (x' h' x h s f t : ℕ) → x' ⊕ h' ≡ x ⊕ h ⊕ s → f ≡ s → x' ⊕ (h' ⊕ t) ≡ x ⊕ (h ⊕ f) ⊕ t
three-go x' h' x h s f t e same =
    sym (add_assoc x' h' t) ∙ ap (λ y. y ⊕ t) (e ∙ add_assoc x h s ∙ ap (λ y. x ⊕ (h ⊕ y)) (sym same))

-- six at once, and nothing
pub six-and-none : (x a b c d e f : ℕ) → x ⊕ (a ⊕ b ⊕ c ⊕ d ⊕ e ⊕ f) ⊕ 0 ≡ x ⊕ (a ⊕ b ⊕ c) ⊕ (d ⊕ e ⊕ f)
six-and-none x a b c d e f = add_zero _ ∙ ap (◌⊕◌ x) grouped ∙ sym (add_assoc x (a ⊕ b ⊕ c) (d ⊕ e ⊕ f)) where
  grouped : a ⊕ b ⊕ c ⊕ d ⊕ e ⊕ f ≡ a ⊕ b ⊕ c ⊕ (d ⊕ e ⊕ f)
  grouped = simp add_assoc
