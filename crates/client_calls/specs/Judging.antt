-- The verdict on what the servers of a fetch answered.
use Rattle.std.specs.Prelude.{ℕ, Result, Ok, Err}
use Rattle.wire_frames.specs.Session.{Transcript}
use Rattle.query_rounds.specs.declared.plan.FetchPlan.{FetchPlan}
use Rattle.query_rounds.specs.Plan.{IsPlan, params_of}
use Rattle.block_decoder.specs.declared.verdict.Verdict.{Verdict}
use Rattle.block_decoder.specs.Verdict.{IsVerdict}
use Rattle.client_calls.specs.declared.numbers.PlanNumbers.{PlanNumbers}
use Rattle.client_calls.specs.declared.refusal.Refusal.{Refusal}
use Rattle.client_calls.specs.declared.refusal.Refusal.TheVariants.{Plan, Blocks, Index, Coins, Answers, Room, Memory}
use Rattle.client_calls.specs.Answers.{AreAnswers, Given, records_of}
use Rattle.client_calls.specs.Asking.{MayAsk, answer_size}
use Rattle.client_calls.specs.Numbers.{plan_of}

-- what is to be judged: the numbers of a plan, for how many blocks it asked, the number of the session, and the answers
pub record Question : Type 0 where
  pub numbers : PlanNumbers
  pub count : ℕ
  pub number : ℕ
  pub answers : Given

-- the question with these
abbrev pub question : PlanNumbers → ℕ → ℕ → Given → Question
question numbers count number answers =
    record { numbers = numbers; count = count; number = number; answers = answers }

-- the session in which the servers of a plan answered so
abbrev pub session_for : FetchPlan → ℕ → ℕ → Given → Transcript
session_for p count number answers = record {
  params = params_of p count number;
  records = records_of (answer_size p count) p.n answers;
}

-- the session of a question
abbrev pub session_in : Question → Transcript
session_in q = session_for (plan_of q.numbers) q.count q.number q.answers

-- so many blocks may be asked for at once by the plan
abbrev pub IsAsked : Question → Type 0
IsAsked q = IsPlan (plan_of q.numbers) × MayAsk (plan_of q.numbers) q.count

-- why a question has no verdict: the plan, then the number of blocks, then the answers; or there was no memory
abbrev pub RefusesQuestion : Question → Refusal → Type 0
RefusesQuestion q Plan = IsPlan (plan_of q.numbers) → ⊥
RefusesQuestion q Blocks = IsPlan (plan_of q.numbers) × (MayAsk (plan_of q.numbers) q.count → ⊥)
RefusesQuestion q Answers = IsAsked q × (AreAnswers q.numbers.servers q.answers → ⊥)
RefusesQuestion q Memory = IsAsked q × AreAnswers q.numbers.servers q.answers
RefusesQuestion q Index = ⊥
RefusesQuestion q Coins = ⊥
RefusesQuestion q (Room wanted) = ⊥

-- the verdict is that on the session of the question
abbrev pub JudgesAnswers : Question → Result Verdict Refusal → Type 0
JudgesAnswers q (Ok verdict) =
    IsAsked q × AreAnswers q.numbers.servers q.answers × IsVerdict (session_in q) verdict
JudgesAnswers q (Err refusal) = RefusesQuestion q refusal
