-- What a call answers that tells a size.
use Rattle.std.specs.Prelude.{ℕ, ℤ, ◌≡◌, pos, Result, Ok, Err}
use Rattle.query_rounds.specs.declared.plan.FetchPlan.{FetchPlan}
use Rattle.client_calls.specs.declared.numbers.PlanNumbers.{PlanNumbers}
use Rattle.client_calls.specs.declared.refusal.Refusal.{Refusal}
use Rattle.client_calls.specs.Asking.{Sizes}
use Rattle.libpir.specs.Codes.{number_of, refusal_code}

-- the size, or the number of the refusal
abbrev pub size_number : Result ℕ Refusal → ℤ
size_number (Ok size) = pos size
size_number (Err refusal) = number_of (refusal_code refusal)

-- the size that this is for so many blocks by a plan with these numbers, or why there is none, as a number
pub record TellsSize (size : FetchPlan → ℕ → ℕ) (p : PlanNumbers) (count : ℕ) (number : ℤ) : Type 0 where
  pub found : Result ℕ Refusal
  pub is : Sizes size p count found
  pub told : number ≡ size_number found
