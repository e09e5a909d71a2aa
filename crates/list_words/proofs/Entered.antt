-- The command that a parse entered.
use Rattle.std.proofs.Common.{◌≡◌, false, List, Option, Some, None, is_some, refl, subst}
use Rattle.std.specs.Prelude.{Result, Err, option_map}
use Rattle.clap.specs.Words.{Row, Text}
use Rattle.list_words.specs.Answer.{Comes, IsCommand}
use Rattle.list_words.specs.declared.asked.Asked.{Asked}
use Rattle.list_words.specs.declared.fault.WordsFault.{WordsFault}
use Rattle.list_words.specs.declared.fault.WordsFault.TheVariants.{NoCommand}
use Rattle.pir_words.proofs.Chains.{some_is}

module _ {X : Type 0} where
  -- what comes of a command's name and what the words give to its arguments, by both
  pub comes_at : (entered : Option X) (name_of : X → Text) (rows_in : X → List Row) (name : Text) (m : List Row) (r : Result Asked WordsFault)
      → Some name ≡ option_map name_of entered
      → Some m ≡ option_map (λ (p : Text × List Row). p.1) (option_map (λ x. (name_of x, rows_in x)) entered)
      → IsCommand name m r → Comes (option_map (λ x. (name_of x, rows_in x)) entered) r
  comes_at None name_of rows_in name m r a b h = cc
  comes_at (Some x) name_of rows_in name m r a b h =
      subst (λ n. IsCommand n (rows_in x) r) (some_is name (name_of x) a) (subst (λ rows. IsCommand name rows r) (some_is m (rows_in x) b) h)

  -- no command is entered
  pub comes_none : (entered : Option X) (f : X → Text × List Row) (r : Result Asked WordsFault) → false ≡ is_some entered → r ≡ Err NoCommand
      → Comes (option_map f entered) r
  comes_none None f r e is = is
  comes_none (Some x) f r e is = cc
