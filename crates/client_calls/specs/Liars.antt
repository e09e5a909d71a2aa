-- Which servers lied.
use Rattle.std.specs.Prelude.{ℕ, ◌≡◌, ◌≢◌, ◌+◌, ◌*◌, ◌<◌, ◌⊎◌, List, [], length, slice_index, slice_index_or, Contains, Option, Some, None, Result, Ok, Err}
use Rattle.wire_frames.specs.Answer.{answers}
use Rattle.wire_frames.specs.Session.{Transcript}
use Rattle.block_decoder.specs.Report.{Agreement}
use Rattle.block_decoder.specs.Reported.{IsReportOn}
use Rattle.block_decoder.specs.Usable.{payload_of}
use Rattle.block_decoder.specs.declared.verdict.Verdict.{Verdict}
use Rattle.client_calls.specs.declared.liars.TheConstants.{UNUSABLE, AGREES, LIED}
use Rattle.client_calls.specs.declared.refusal.Refusal.{Refusal}
use Rattle.client_calls.specs.declared.refusal.Refusal.TheVariants.{Plan, Blocks, Index, Coins, Answers, Room, Memory}
use Rattle.client_calls.specs.Answers.{AreAnswers}
use Rattle.client_calls.specs.Judging.{IsAsked, JudgesAnswers, Question, RefusesQuestion, session_in}

-- what is said of server i, where those with these indices agree: it agrees or it lied, where its answer is usable
abbrev pub IsStanding : List ℕ → ℕ → Option (List ℕ) → ℕ → Type 0
IsStanding indices i None said = said ≡ UNUSABLE
IsStanding indices i (Some payload) said =
    ((said ≡ AGREES) × Contains indices i) ⊎ ((said ≡ LIED) × (Contains indices i → ⊥))

-- that of each server of the session
abbrev pub TellsStandings : Transcript → List ℕ → List ℕ → Type 0
TellsStandings session indices who = (place : ℕ) → place < session.params.n
    → IsStanding indices (place + 1) (payload_of session (place + 1)) (slice_index who place)

-- there is one agreement, of so many answers that there can be no other
abbrev pub IsClear : Transcript → List Agreement → Type 0
IsClear session agreements =
    (length agreements ≡ 1) × (length (answers session) + session.params.t < 2 * session.params.h)

-- no agreement: no block, and nobody
abbrev pub no_agreement : Agreement
no_agreement = record { block = []; indices = [] }

-- the indices of those that agree, where there is one agreement
abbrev pub agreeing : List Agreement → List ℕ
agreeing agreements = (slice_index_or agreements 0 no_agreement).indices

-- where that is clear, it is said of each server what it did; else nothing is said
abbrev pub TellsLiars : Transcript → Option (List Agreement) → List ℕ → List ℕ → Type 0
TellsLiars session None old new = new ≡ old
TellsLiars session (Some agreements) old new =
    (IsClear session agreements × TellsStandings session (agreeing agreements) new)
    ⊎ ((IsClear session agreements → ⊥) × (new ≡ old))

-- by the report beside the verdict on the session
pub record LiarsTold (session : Transcript) (verdict : Verdict) (old new : List ℕ) : Type 0 where
  pub report : Option (List Agreement)
  pub is : IsReportOn session verdict report
  pub told : TellsLiars session report old new

-- why nothing is said: as of a verdict, and where there isn't a byte for each server
abbrev pub RefusesLiars : Question → Refusal → List ℕ → Type 0
RefusesLiars q Plan who = RefusesQuestion q Plan
RefusesLiars q Blocks who = RefusesQuestion q Blocks
RefusesLiars q Answers who =
    IsAsked q × ((AreAnswers q.numbers.servers q.answers → ⊥) ⊎ (length who ≢ q.numbers.servers))
RefusesLiars q Memory who = IsAsked q × AreAnswers q.numbers.servers q.answers × (length who ≡ q.numbers.servers)
RefusesLiars q Index who = ⊥
RefusesLiars q Coins who = ⊥
RefusesLiars q (Room wanted) who = ⊥

-- the verdict is that on the session of the question, and by its report it is said who lied
abbrev pub JudgesBy : Question → Result Verdict Refusal → List ℕ → List ℕ → Type 0
JudgesBy q (Ok verdict) old new =
    JudgesAnswers q (Ok verdict) × (length old ≡ q.numbers.servers) × LiarsTold (session_in q) verdict old new
JudgesBy q (Err refusal) old new = RefusesLiars q refusal old × (new ≡ old)
