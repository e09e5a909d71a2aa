-- The command that a parse entered.
use Rattle.std.proofs.Common.{◌≡◌, ◌∙◌, true, false, List, Option, Some, None, is_some, unwrap_or, refl, sym, ap, subst}
use Rattle.std.specs.Prelude.{Result, Err, option_map}
use Rattle.std.proofs.lemmas.Bool.{cond-false, cond-true}
use Rattle.clap.specs.Words.{Row, Text, subcommand_of}
use Rattle.pir_words.specs.Form.{IsReadAs, are_taken, asked_by, asked_in, asked_of, pir}
use Rattle.pir_words.specs.declared.asked.Asked.{Asked}
use Rattle.pir_words.specs.declared.asked.WordsFault.{WordsFault}
use Rattle.pir_words.specs.declared.asked.WordsFault.TheVariants.{Usage, Memory}

module _ {X : Type 0} where
  -- a command's name and what the words give to its arguments, by both
  pub asked_at : (entered : Option X) (name_of : X → Text) (rows_in : X → List Row) (name : Text) (m : List Row) → Some name ≡ option_map name_of entered
      → Some m ≡ option_map (λ (p : Text × List Row). p.1) (option_map (λ x. (name_of x, rows_in x)) entered)
      → asked_by name m ≡ asked_in (option_map (λ x. (name_of x, rows_in x)) entered)
  unfolding asked_in
  asked_at None name_of rows_in name m a b = cc
  asked_at (Some x) name_of rows_in name m a b = λ i. asked_by (unwrap_or (a i) name) (unwrap_or (b i) m)

  -- no command is entered
  pub asked_none : (entered : Option X) (f : X → Text × List Row) → false ≡ is_some entered → asked_in (option_map f entered) ≡ None
  unfolding asked_in
  asked_none None f e = refl
  asked_none (Some x) f e = cc

-- words that `clap` doesn't take have no form
pub untaken : (words : List Text) (fault : WordsFault) → (fault ≡ Usage → are_taken words ≡ false) → IsReadAs (asked_of words) (Err fault)
unfolding asked_of
untaken words Usage h = cond-false (are_taken words) _ _ (h refl)
untaken words Memory h = tt

-- words that it takes ask for the command that it enters
pub taken : (words : List Text) (entered : Option (Text × List Row)) (r : Result Asked WordsFault) → are_taken words ≡ true
    → entered ≡ subcommand_of pir words → IsReadAs (asked_in entered) r → IsReadAs (asked_of words) r
unfolding asked_of
taken words entered r is_taken same h =
    subst (λ o. IsReadAs o r) (ap asked_in same ∙ sym (cond-true (are_taken words) _ _ is_taken)) h
