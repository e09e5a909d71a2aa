-- `parse` at digits alone.
use Rattle.std.proofs.Common.{◌≡◌, ◌∙◌, ◌<◌, ℕ, ◌^◌, List, length, Bool, true, false, Option, Some, None, refl, sym, ap}
use Rattle.std.specs.Prelude.{Result, Ok, Err, nat_lt}
use Rattle.std.specs.Result.{OkIff, result_ok}
use Rattle.std.specs.List.{list_all}
use Rattle.std.specs.Str.Parse.{ParsesUnsigned, digits_value}
use Rattle.std.proofs.lemmas.Bool.{and_from, and_parts, cond-true, le-leb, leb-true, lt-ltb, ltb-true}
use Rattle.std.proofs.lemmas.Str.Parse.{IsDigitsTest, IsNumeralModel, numerals_by_value, parse_digits}
use Rattle.pir_words.specs.Chain.{◌>>◌}
use Rattle.pir_words.specs.Numbers.{is_digit, number}

-- the test of digits is the parser's own
are_digits : IsDigitsTest (λ ds. list_all is_digit ds ≡ true)
are_digits = record {
  empty = refl;
  parts = λ c cs e. let all = and_parts _ _ e in let one = and_parts _ _ all.0 in ((leb-true 48 c one.0, leb-true c 57 one.1), all.1);
  more = λ c cs k e. and_from _ _ (and_from _ _ (le-leb 48 c k.0) (le-leb c 57 k.1)) e;
}

-- the value of digits is the parser's own
numerals : IsNumeralModel (λ ds. list_all is_digit ds ≡ true) (digits_value 10)
numerals = numerals_by_value _ are_digits

-- tests of which one fails
fails : {A : Type 0} (a b c : Bool) (o : Option A) → (a ≡ true → c ≡ true → ⊥) → None ≡ (a >> b >> c >> o)
fails true true true o h = absurd (h refl refl)
fails true false c o h = refl
fails true true false o h = refl
fails false b c o h = refl

module _ {E : Type 0} where
  -- `parse` gives the number of digits
  pub number_parsed : (ds : List ℕ) (r : Result ℕ E) → list_all is_digit ds ≡ true → ParsesUnsigned 64 10 ds r → result_ok r ≡ number ds
  unfolding number
  number_parsed ds r digits h = go r (parse_digits numerals 64 ds r h digits)
    where
      -- whichever answer it is
      go : (r : Result ℕ E) → OkIff r ((0 < length ds) × (digits_value 10 ds < 2 ^ 64)) (digits_value 10 ds) → result_ok r ≡ number ds
      go (Ok x) k = sym (cond-true _ _ _ (lt-ltb 0 (length ds) k.0.0) ∙ (cond-true _ _ _ digits ∙ (cond-true _ _ _ (lt-ltb _ (2 ^ 64) k.0.1) ∙ ap Some (sym k.1))))
      go (Err e) k = fails (nat_lt 0 (length ds)) (list_all is_digit ds) (nat_lt (digits_value 10 ds) (2 ^ 64)) _ (λ some few. k (ltb-true 0 (length ds) some, ltb-true _ (2 ^ 64) few))
