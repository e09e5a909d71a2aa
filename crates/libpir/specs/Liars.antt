-- What a call answers that says who lied.
use Rattle.std.specs.Prelude.{ℕ, ℤ, List, Result}
use Rattle.block_decoder.specs.declared.verdict.Verdict.{Verdict}
use Rattle.client_calls.specs.declared.refusal.Refusal.{Refusal}
use Rattle.client_calls.specs.Judging.{Question}
use Rattle.client_calls.specs.Liars.{JudgesBy}
use Rattle.libpir.specs.declared.numbers.VerdictNumbers.{VerdictNumbers}
use Rattle.libpir.specs.Judgements.{TellsJudged}

-- what the caller lets be written: the blocks, a byte for each server, and the numbers of the verdict
pub record Places : Type 0 where
  pub out : List ℕ
  pub who : List ℕ
  pub numbers : VerdictNumbers

-- the places with these
abbrev pub places : List ℕ → List ℕ → VerdictNumbers → Places
places out who numbers = record { out = out; who = who; numbers = numbers }

-- the answers of a question are judged, it is said who lied, and what came of it is told
pub record AnswersLiars (q : Question) (before after : Places) (code : ℤ) : Type 0 where
  pub judged : Result Verdict Refusal
  pub is : JudgesBy q judged before.who after.who
  pub told_so : TellsJudged judged before.out after.out before.numbers after.numbers code
