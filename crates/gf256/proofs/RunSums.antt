-- Sums over runs of terms.
use Rattle.std.proofs.Common.{◌≡◌, ℕ, suc, ◌+◌, ◌-◌, ◌≤◌, ◌<◌, sym, ap, ap₂, ◌∙◌, arith}
use Rattle.gf256.specs.Field.{◌⊕◌}
use Rattle.gf256.specs.Sums.{sum_to, run_sum}
use Rattle.gf256.proofs.Xor.{sums, zero_add, add_self_left}
use Rattle.gf256.proofs.Sums.{sum_to-append, sum_to-zero}

-- the sum of a run, by those of all terms before its ends
run-is : (f : ℕ → ℕ) (from to : ℕ) → from ≤ to → run_sum f from to ≡ sum_to f from ⊕ sum_to f to
unfolding run_sum
run-is f from to le =
    let whole : from + (to - from) ≡ to = omega arith in
    sym (ap (λ n. sum_to f from ⊕ sum_to f n) (sym whole)
    ∙ ap (◌⊕◌ (sum_to f from)) (sum_to-append f from (to - from))
    ∙ add_self_left (sum_to f from) (sum_to (λ i. f (from + i)) (to - from)))

-- a run of terms that are 0
pub run-zero : (f : ℕ → ℕ) (from to : ℕ) → ((j : ℕ) → from ≤ j → j < to → f j ≡ 0) → run_sum f from to ≡ 0
unfolding run_sum
run-zero f from to none =
    sum_to-zero (λ i. f (from + i)) (to - from) (λ i l. none (from + i) (omega arith) (omega arith))

-- no terms
pub run-none : (f : ℕ → ℕ) (from : ℕ) → run_sum f from from ≡ 0
run-none f from = run-zero f from from (λ j l m. absurd (omega (arith, l, m)))

-- one run after the other
pub run-join : (f : ℕ → ℕ) (from at to : ℕ) → from ≤ at → at ≤ to
    → run_sum f from at ⊕ run_sum f at to ≡ run_sum f from to
run-join f from at to l m =
    ap₂ ◌⊕◌ (run-is f from at l) (run-is f at to m)
    ∙ (let e : (sum_to f from ⊕ sum_to f at) ⊕ (sum_to f at ⊕ sum_to f to) ≡ sum_to f from ⊕ sum_to f to = simp sums in e)
    ∙ sym (run-is f from to (omega (arith, l, m)))

-- one more term
pub run-next : (f : ℕ → ℕ) (from j : ℕ) → from ≤ j → run_sum f from (j + 1) ≡ run_sum f from j ⊕ f j
unfolding run_sum sum_to
run-next f from j le =
    let more : j + 1 - from ≡ suc (j - from) = omega arith in
    let place : from + (j - from) ≡ j = omega arith in
    ap (sum_to (λ i. f (from + i))) more ∙ ap (λ p. run_sum f from j ⊕ f p) place

-- all terms
pub run-all : (f : ℕ → ℕ) (n : ℕ) → run_sum f 0 n ≡ sum_to f n
unfolding sum_to
run-all f n = run-is f 0 n (omega arith) ∙ zero_add _
