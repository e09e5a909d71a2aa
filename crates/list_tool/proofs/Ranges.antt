-- The numbers that words give to `build` are in their ranges.
use Rattle.std.proofs.Common.{◌≡◌, ◌∙◌, inl, inr, ℕ, ◌≤◌, Bool, true, false, List, Option, Some, None, IfSome, unwrap_or, refl, sym, subst, arith}
use Rattle.std.specs.Prelude.{Result, Ok, Err}
use Rattle.clap.specs.Words.{Row, Text, subcommand_of}
use Rattle.quantity_limits.specs.declared.TheConstants.{MOST_ROWS}
use Rattle.key_table.specs.declared.TheConstants.{LEAST_DIGEST, MOST_DIGEST, MOST_VALUE}
use Rattle.pir_words.proofs.ValuesInRange.{limited_range}
use Rattle.list_keys.specs.Form.{IsForm}
use Rattle.list_builds.specs.Order.{IsOrder, form_of}
use Rattle.list_words.specs.Amounts.{least_of, most_of, name_of}
use Rattle.list_words.specs.Answer.{Comes, IsAnswer}
use Rattle.list_words.specs.Command.{pir_list}
use Rattle.list_words.specs.Values.{IsBuild, amount_in}
use Rattle.list_words.specs.declared.TheConstants.{USUAL_DIGEST}
use Rattle.list_words.specs.declared.amount.Amount.{Amount}
use Rattle.list_words.specs.declared.amount.Amount.TheVariants.{DigestBytes, ValueBytes, Rows}
use Rattle.list_words.specs.declared.asked.Asked.{Asked}
use Rattle.list_words.specs.declared.asked.Asked.TheVariants.{Build as AsksBuild, Check, Find, Help, Version}
use Rattle.list_words.specs.declared.asked.Build.{Build}
use Rattle.list_words.specs.declared.fault.WordsFault.{WordsFault}
use Rattle.list_tool.specs.BuildWords.{values_for}
use Rattle.list_tool.specs.Run.{IsInRange}

-- a number that is given is in its range
amount_range : (amount : Amount) (m : List Row) (n : ℕ) → amount_in amount m ≡ Some n → (least_of amount ≤ n) × (n ≤ most_of amount)
unfolding amount_in
amount_range amount m n e = limited_range (name_of amount) (least_of amount) (most_of amount) m n e

digest_range : (given : Option ℕ) → ((n : ℕ) → given ≡ Some n → (LEAST_DIGEST ≤ n) × (n ≤ MOST_DIGEST))
    → (LEAST_DIGEST ≤ unwrap_or given USUAL_DIGEST) × (unwrap_or given USUAL_DIGEST ≤ MOST_DIGEST)
digest_range None range = (omega arith, omega arith)
digest_range (Some n) range = range n refl

rows_range : (given : Option ℕ) → ((n : ℕ) → given ≡ Some n → (1 ≤ n) × (n ≤ MOST_ROWS))
    → IfSome given (λ r. 1 ≤ r) × IfSome given (λ r. r ≤ MOST_ROWS)
rows_range None range = (tt, tt)
rows_range (Some n) range = range n refl

values_range : (values : Bool) (given : Option ℕ) → ((n : ℕ) → given ≡ Some n → (0 ≤ n) × (n ≤ MOST_VALUE))
    → IsForm (form_of (values_for values given))
values_range false given range = tt
values_range true None range = omega arith
values_range true (Some n) range = (range n refl).1

build_range : (m : List Row) (build : Build) → IsBuild m build
    → IsOrder build.digest_bytes (values_for build.values build.value_bytes) build.rows
build_range m build is =
    let digest = digest_range (amount_in DigestBytes m) (amount_range DigestBytes m) in
    let rows = rows_range build.rows (λ n e. amount_range Rows m n (sym is.rows ∙ e)) in
    record {
      long_digest = subst (λ (n : ℕ). LEAST_DIGEST ≤ n) (sym is.digest_bytes) digest.0;
      short_digest = subst (λ (n : ℕ). n ≤ MOST_DIGEST) (sym is.digest_bytes) digest.1;
      short_values = values_range build.values build.value_bytes (λ n e. amount_range ValueBytes m n (sym is.value_bytes ∙ e));
      some_rows = rows.0;
      few_rows = rows.1;
    }

-- a command came of the words
abbrev IsCommanded : Result Asked WordsFault → Type 0
IsCommanded (Ok asked) = Unit {0}
IsCommanded (Err fault) = ⊥

come_range : (entered : Option (Text × List Row)) (build : Build) → Comes entered (Ok (AsksBuild build)) → IsInRange (AsksBuild build)
come_range None build e = absurd (subst IsCommanded e tt)
come_range (Some entered) build is = build_range entered.1 build is.2

-- what words ask for is in its range
pub asked_range : (words : List Text) (asked : Asked) → IsAnswer words (Ok asked) → IsInRange asked
asked_range words (AsksBuild build) (inl e) = absurd (subst IsCommanded e tt)
asked_range words (AsksBuild build) (inr (inl taken)) = come_range (subcommand_of pir_list words) build taken.1
asked_range words (AsksBuild build) (inr (inr refused)) = absurd refused.shown
asked_range words (Find find) is = tt
asked_range words (Check check) is = tt
asked_range words (Help text) is = tt
asked_range words (Version text) is = tt
