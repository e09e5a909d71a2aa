-- What a call answers that writes a query.
use Rattle.std.specs.Prelude.{ℕ, ℤ, ◌≡◌, List, Result, Ok, Err}
use Rattle.client_calls.specs.declared.refusal.Refusal.{Refusal}
use Rattle.client_calls.specs.declared.refusal.Refusal.TheVariants.{Plan, Blocks, Index, Coins, Answers, Room, Memory}
use Rattle.client_calls.specs.Query.{Order, WritesQuery}
use Rattle.libpir.specs.declared.code.Code.TheVariants.{Done}
use Rattle.libpir.specs.Codes.{number_of, refusal_code}

-- the number of what became of the writing
abbrev pub written_number : Result ℕ Refusal → ℤ
written_number (Ok used) = number_of Done
written_number (Err refusal) = number_of (refusal_code refusal)

-- the length that the caller is told: that of what was written, or of what there is too little room for
abbrev pub told_length : ℕ → Result ℕ Refusal → ℕ
told_length before (Ok used) = used
told_length before (Err Plan) = before
told_length before (Err Blocks) = before
told_length before (Err Index) = before
told_length before (Err Coins) = before
told_length before (Err Answers) = before
told_length before (Err (Room wanted)) = wanted
told_length before (Err Memory) = before

-- the query is written or refused, and the code and the length say so
pub record AnswersQuery (o : Order) (old new : List ℕ) (before after : ℕ) (code : ℤ) : Type 0 where
  pub written : Result ℕ Refusal
  pub is : WritesQuery o old new written
  pub told : code ≡ written_number written
  pub length_is : after ≡ told_length before written
