-- Sums over runs of rows, and lists of zeros.
use Rattle.std.proofs.Common.{◌≡◌, ℕ, zero, suc, ◌+◌, ◌<◌, ◌≤◌, length, slice_index, take, replicate, refl, ap, ◌∙◌, arith, ◌-◌}
use Rattle.std.proofs.lemmas.List.{length-take-le, length-replicate}
use Rattle.gf256.specs.Field.{◌⊕◌}
use Rattle.gf256.specs.Sums.{run_sum}
use Rattle.gf256.proofs.RunSums.{run-none, run-next, run-join}
use Rattle.gf256.proofs.Sums.{sum_to-same}

-- the same terms have the same sum
pub run-same : (f g : ℕ → ℕ) (from to : ℕ) → ((j : ℕ) → from ≤ j → j < to → f j ≡ g j) → run_sum f from to ≡ run_sum g from to
unfolding run_sum
run-same f g from to h =
    sum_to-same (λ i. f (from + i)) (λ i. g (from + i)) (to - from) (λ i l. h (from + i) (omega arith) (omega arith))

-- no terms of a run that begins anywhere
pub none_yet : (f : ℕ → ℕ) (from : ℕ) → run_sum f from (from + 0) ≡ 0
none_yet f from = let e : from + 0 ≡ from = omega arith in ap (run_sum f from) e ∙ run-none f from

-- one more term of a run
pub one_more : (f : ℕ → ℕ) (from n : ℕ) → run_sum f from (from + (n + 1)) ≡ run_sum f from (from + n) ⊕ f (from + n)
one_more f from n =
    let e : from + (n + 1) ≡ from + n + 1 = omega arith in
    ap (run_sum f from) e ∙ run-next f from (from + n) (omega arith)

-- a part that follows the terms before it
pub part_follows : (f : ℕ → ℕ) (from m k n : ℕ) → m + n ≡ k
    → run_sum f from (from + m) ⊕ run_sum f (from + m) (from + m + n) ≡ run_sum f from (from + k)
part_follows f from m k n e =
    let end : from + m + n ≡ from + k = omega arith in
    ap (λ t. run_sum f from (from + m) ⊕ run_sum f (from + m) t) end
    ∙ run-join f from (from + m) (from + k) (omega arith) (omega arith)

-- a place of the front of a list of zeros
pub zeros-at : (n m k : ℕ) → slice_index (take n (replicate m 0)) k ≡ 0
zeros-at zero m k = refl
zeros-at (suc n) zero k = refl
zeros-at (suc n) (suc m) zero = refl
zeros-at (suc n) (suc m) (suc k) = zeros-at n m k

-- how long the front of a list of zeros is
pub zeros-long : (n m : ℕ) → n ≤ m → length {A = ℕ} (take n (replicate m 0)) ≡ n
zeros-long n m l =
    let long : length {A = ℕ} (replicate m 0) ≡ m = length-replicate m 0 in
    length-take-le n (replicate m 0) (omega (arith, long))
