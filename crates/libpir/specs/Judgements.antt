-- What a call answers that judges.
use Rattle.std.specs.Prelude.{ℕ, ℤ, ◌≡◌, List, [], ◌∷◌, Result, Ok, Err}
use Rattle.block_decoder.specs.declared.verdict.Verdict.{Verdict}
use Rattle.block_decoder.specs.declared.verdict.Verdict.TheVariants.{Listed, TooFew, TooWeak, TooCostly}
use Rattle.client_calls.specs.declared.refusal.Refusal.{Refusal}
use Rattle.client_calls.specs.declared.refusal.Refusal.TheVariants.{Plan, Blocks, Index, Coins, Answers, Room, Memory}
use Rattle.client_calls.specs.Answers.{Given}
use Rattle.client_calls.specs.Judging.{Question, JudgesAnswers}
use Rattle.client_calls.specs.Listing.{WritesListing}
use Rattle.libpir.specs.declared.code.Code.{Code}
use Rattle.libpir.specs.declared.code.Code.TheVariants.{Done, NoBlock, Several, FewAnswers, WeakAgreement, HighCost}
use Rattle.libpir.specs.declared.numbers.VerdictNumbers.{VerdictNumbers}
use Rattle.libpir.specs.Codes.{number_of, refusal_code}
use Rattle.libpir.specs.Numbers.{cost_numbers, few_numbers, listed_numbers, weak_numbers}

-- the answers that are told by these bytes, lengths and marks
abbrev pub told : List ℕ → List ℕ → List ℕ → Given
told bytes lengths marks = record { bytes = bytes; lengths = lengths; marks = marks }

-- the code of a listing, by how many blocks it has
abbrev pub listed_code : List (List ℕ) → Code
listed_code [] = NoBlock
listed_code (block ∷ []) = Done
listed_code (block ∷ other ∷ blocks) = Several

-- that of its writing
abbrev pub written_code : List (List ℕ) → Result ℕ Refusal → Code
written_code blocks (Ok used) = listed_code blocks
written_code blocks (Err refusal) = refusal_code refusal

-- the numbers after it: those of the listing, also where there is too little room for the blocks
abbrev pub written_numbers : VerdictNumbers → List (List ℕ) → Result ℕ Refusal → VerdictNumbers
written_numbers before blocks (Ok used) = listed_numbers blocks
written_numbers before blocks (Err (Room wanted)) = listed_numbers blocks
written_numbers before blocks (Err Plan) = before
written_numbers before blocks (Err Blocks) = before
written_numbers before blocks (Err Index) = before
written_numbers before blocks (Err Coins) = before
written_numbers before blocks (Err Answers) = before
written_numbers before blocks (Err Memory) = before

-- the blocks of a listing are written or not, and the numbers and the code say so
pub record TellsListing (blocks : List (List ℕ)) (old new : List ℕ) (before after : VerdictNumbers) (code : ℤ)
    : Type 0 where
  pub written : Result ℕ Refusal
  pub is : WritesListing blocks old new written
  pub numbers : after ≡ written_numbers before blocks written
  pub code_is : code ≡ number_of (written_code blocks written)

-- nothing is written, and these are the numbers and the code
abbrev pub TellsNone : Code → VerdictNumbers → List ℕ → List ℕ → VerdictNumbers → ℤ → Type 0
TellsNone code numbers old new after number = (new ≡ old) × (after ≡ numbers) × (number ≡ number_of code)

-- what a verdict says is written, and told
abbrev pub TellsVerdict : Verdict → List ℕ → List ℕ → VerdictNumbers → VerdictNumbers → ℤ → Type 0
TellsVerdict (Listed blocks) old new before after code = TellsListing blocks old new before after code
TellsVerdict (TooFew k h) old new before after code = TellsNone FewAnswers (few_numbers k h) old new after code
TellsVerdict (TooWeak k t h) old new before after code = TellsNone WeakAgreement (weak_numbers k t h) old new after code
TellsVerdict (TooCostly cost) old new before after code = TellsNone HighCost (cost_numbers cost) old new after code

-- so is what came of judging; what is refused leaves all as it was
abbrev pub TellsJudged : Result Verdict Refusal → List ℕ → List ℕ → VerdictNumbers → VerdictNumbers → ℤ → Type 0
TellsJudged (Ok verdict) old new before after code = TellsVerdict verdict old new before after code
TellsJudged (Err refusal) old new before after code = TellsNone (refusal_code refusal) before old new after code

-- the answers of a question are judged, and what came of it is told
pub record AnswersJudgement (q : Question) (old new : List ℕ) (before after : VerdictNumbers) (code : ℤ) : Type 0 where
  pub judged : Result Verdict Refusal
  pub is : JudgesAnswers q judged
  pub told_so : TellsJudged judged old new before after code
