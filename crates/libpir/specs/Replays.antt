-- What a call answers that judges a recorded session.
use Rattle.std.specs.Prelude.{ℕ, ℤ, ◌≡◌, List, Result, Ok, Err}
use Rattle.block_decoder.specs.declared.verdict.Verdict.{Verdict}
use Rattle.block_decoder.specs.declared.verdict.Verdict.TheVariants.{Listed, TooFew, TooWeak, TooCostly}
use Rattle.client_calls.specs.declared.replaying.ReplayRefusal.{ReplayRefusal}
use Rattle.client_calls.specs.declared.replaying.ReplayRefusal.TheVariants.{BadSession as Wrong, Room, Memory}
use Rattle.client_calls.specs.Replaying.{ReplaysInto}
use Rattle.libpir.specs.declared.code.Code.{Code}
use Rattle.libpir.specs.declared.code.Code.TheVariants.{FewAnswers, WeakAgreement, HighCost, BadSession, SmallRoom, NoMemory}
use Rattle.libpir.specs.Codes.{number_of}
use Rattle.libpir.specs.Judgements.{listed_code}

-- the code of a verdict
abbrev pub verdict_code : Verdict → Code
verdict_code (Listed blocks) = listed_code blocks
verdict_code (TooFew k h) = FewAnswers
verdict_code (TooWeak k t h) = WeakAgreement
verdict_code (TooCostly cost) = HighCost

-- that of what became of a session
abbrev pub replayed_code : Result (Verdict × ℕ) ReplayRefusal → Code
replayed_code (Ok found) = verdict_code found.0
replayed_code (Err (Wrong place)) = BadSession
replayed_code (Err (Room wanted)) = SmallRoom
replayed_code (Err Memory) = NoMemory

-- the length that the caller is told: that of the text, or of the prefix that begins a session
abbrev pub replayed_length : ℕ → Result (Verdict × ℕ) ReplayRefusal → ℕ
replayed_length before (Ok found) = found.1
replayed_length before (Err (Wrong place)) = place
replayed_length before (Err (Room wanted)) = wanted
replayed_length before (Err Memory) = before

-- the text of a session's verdict is written or not, and the code and the length say so
pub record AnswersReplay (bytes old new : List ℕ) (before after : ℕ) (code : ℤ) : Type 0 where
  pub replayed : Result (Verdict × ℕ) ReplayRefusal
  pub is : ReplaysInto bytes old new replayed
  pub told : code ≡ number_of (replayed_code replayed)
  pub length_is : after ≡ replayed_length before replayed
