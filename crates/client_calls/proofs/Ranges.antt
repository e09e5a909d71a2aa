-- The numbers of a session are in their ranges where so many blocks may be asked for.
use Rattle.std.proofs.Common.{ℕ, zero, suc, ◌*◌, ◌^◌, ◌<◌, ◌≤◌, sym, subst, arith}
use Rattle.std.specs.Prelude.{All, replicate}
use Rattle.std.proofs.lemmas.List.{length-replicate}
use Rattle.std.proofs.lemmas.List.Elements.{All-cons, All-nil}
use Rattle.quantity_limits.specs.declared.TheConstants.{MOST_BLOCKS, MOST_WIDTH}
use Rattle.wire_frames.specs.Limits.{IsInRange}
use Rattle.query_rounds.specs.declared.plan.FetchPlan.{FetchPlan}
use Rattle.query_rounds.specs.Plan.{AreBlocks, IsPlan, params_of}
use Rattle.query_rounds.proofs.Ranges.{range_of}
use Rattle.client_calls.specs.Asking.{MayAsk}

-- the first row, so often
all_first : (rows n : ℕ) → 1 ≤ rows → All (λ b. b < rows) (replicate n 0)
all_first rows zero some = All-nil (λ b. b < rows)
all_first rows (suc n) some = All-cons (λ b. b < rows) 0 (replicate n 0) (omega (arith, some)) (all_first rows n some)

-- it may be asked for as often as blocks may
first_rows : (p : FetchPlan) (count : ℕ) → 1 ≤ p.r → MayAsk p count → AreBlocks p (replicate count 0)
first_rows p count some may = record {
  some = subst (λ (n : ℕ). 1 ≤ n) (sym (length-replicate count 0)) may.some;
  few = subst (λ (n : ℕ). n ≤ MOST_BLOCKS) (sym (length-replicate count 0)) may.few;
  each = all_first p.r count some;
  few_bytes = subst (λ (n : ℕ). n * p.s ≤ MOST_WIDTH) (sym (length-replicate count 0)) may.few_bytes;
}

-- so the numbers of the session are in range, whichever blocks are asked for
pub range_for : (p : FetchPlan) (count number : ℕ) → IsPlan p → MayAsk p count → number < 2 ^ 64 → IsInRange (params_of p count number)
range_for p count number plan may below =
    subst (λ (n : ℕ). IsInRange (params_of p n number)) (length-replicate count 0)
    (range_of p (replicate count 0) number plan (first_rows p count plan.numbers.shape.some_rows may) below)
