-- What stands behind a value that was read step by step.
use Rattle.std.proofs.Common.{◌≡◌, ◌∙◌, Bool, true, false, Option, Some, None, Result, Err, refl, sym, subst, ap}
use Rattle.pir_words.specs.Chain.{◌>>=◌, ◌>>◌}
use Rattle.pir_words.specs.Form.{IsReadAs}
use Rattle.pir_words.specs.declared.asked.WordsFault.{WordsFault}
use Rattle.pir_words.specs.declared.asked.WordsFault.TheVariants.{Memory, Usage}

module _ {A B : Type 0} where
  -- the value that the rest was read with
  pub value_of : (o : Option A) (next : A → Option B) (b : B) → (o >>= next) ≡ Some b → (a : A) × (o ≡ Some a) × (next a ≡ Some b)
  value_of None next b e = cc
  value_of (Some a) next b e = (a, refl, e)

module _ {A : Type 0} where
  -- two values that are one
  pub some_is : (a b : A) → Some a ≡ Some b → a ≡ b
  some_is a b e = cc

module _ {B : Type 0} where
  -- the test that holds
  pub test_of : (test : Bool) (rest : Option B) (b : B) → (test >> rest) ≡ Some b → (test ≡ true) × (rest ≡ Some b)
  test_of true rest b e = (refl, e)
  test_of false rest b e = cc

module _ {A B : Type 0} {o : Option A} (next : A → Option B) where
  -- the rest is read with the value that is given
  pub given_on : {x : A} {r : Option B} → Some x ≡ o → next x ≡ r → (o >>= next) ≡ r
  given_on e rest = ap (λ (p : Option A). p >>= next) (sym e) ∙ rest

  -- without a value nothing is read
  pub not_given : None ≡ o → (o >>= next) ≡ None
  not_given e = ap (λ (p : Option A). p >>= next) (sym e)

module _ {A B : Type 0} (o : Option A) {next : A → Option B} where
  -- nor where it is read with none of the values that there may be
  pub in_any_case : ((a : A) → next a ≡ None) → (o >>= next) ≡ None
  in_any_case none = by_value o
    where
      -- whichever value it is
      by_value : (p : Option A) → (p >>= next) ≡ None
      by_value None = refl
      by_value (Some a) = none a

-- nor where the value itself is read from a faulty command line
pub not_read : {A B : Type 0} (o : Option A) (next : A → Option B) (r : Result B WordsFault) {f g : WordsFault} → r ≡ Err f → f ≡ g → IsReadAs {A = A} o (Err g) → IsReadAs (o >>= next) r
not_read {A} {B} o next r {f} {g} is same read =
    let err : WordsFault → Result B WordsFault = λ w. Err w in
    subst (IsReadAs (o >>= next)) (sym (is ∙ ap err same)) (by_fault g read)
  where
    -- whichever fault it is
    by_fault : (g : WordsFault) → IsReadAs {A = A} o (Err g) → IsReadAs (o >>= next) (Err g)
    by_fault Usage e = not_given next (sym e)
    by_fault Memory e = tt

-- want of memory may come whatever is wanted
pub short_of_memory : {A : Type 0} (wanted : Option A) (r : Result A WordsFault) {f e : WordsFault} → r ≡ Err f → f ≡ e → e ≡ Memory → IsReadAs wanted r
short_of_memory {A} wanted r is same memory =
    let err : WordsFault → Result A WordsFault = λ w. Err w in
    subst (IsReadAs wanted) (sym (is ∙ ap err (same ∙ memory))) tt
