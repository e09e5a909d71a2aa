-- The rows of the workers.
use Rattle.std.proofs.Common.{◌≡◌, ℕ, zero, suc, ◌+◌, ◌-◌, ◌*◌, ◌/◌, ◌≤◌, ◌<◌, List, ◌++◌, length, slice_index, take, drop, ap, ap₂, sym, subst, ◌∙◌, arith}
use Rattle.std.specs.Fork.{slice_chunk}
use Rattle.std.proofs.lemmas.List.{get_or-take, get_or-drop, take_all, take_at, drop_at, drop-drop}
use Rattle.std.proofs.Math.Nat.{div-le_of_le-mul, mul-div_cancel, mul-le-mul_right, zero-div, zero-mul}
use Rattle.gf256.specs.Field.{◌⊕◌}
use Rattle.gf256.specs.Sums.{run_sum}
use Rattle.row_workers.specs.Parts.{first_row, part, OfParts}
use Rattle.gf256.proofs.RunSums.{run-none, run-join}

-- the first worker begins with the first row
first-zero : (rows workers : ℕ) → first_row rows workers 0 ≡ 0
first-zero rows workers = ap (λ n. n / workers) (zero-mul rows) ∙ zero-div workers

-- the last worker ends with the last row
first-all : (rows workers : ℕ) → 0 < workers → first_row rows workers workers ≡ rows
first-all rows workers pos = ap (λ n. n / workers) (omega arith) ∙ mul-div_cancel rows pos

-- a worker begins no later than the next
pub first-le_next : (rows workers worker : ℕ) → first_row rows workers worker ≤ first_row rows workers (worker + 1)
first-le_next rows workers worker = grind arith

-- no worker goes past the last row
pub first-within : (rows workers worker : ℕ) → worker < workers → first_row rows workers (worker + 1) ≤ rows
first-within rows workers worker lt =
    let le : (worker + 1) * rows ≤ workers * rows = mul-le-mul_right rows (omega arith) in
    div-le_of_le-mul workers le

-- the rows of a worker follow those of the workers before it
next-part : (f : ℕ → ℕ → ℕ) (rows workers worker p : ℕ)
    → run_sum (f p) 0 (first_row rows workers worker) ⊕ part f rows workers worker p ≡ run_sum (f p) 0 (first_row rows workers (worker + 1))
next-part f rows workers worker p =
    let le = first-le_next rows workers worker in
    run-join (f p) 0 (first_row rows workers worker) (first_row rows workers (worker + 1)) (omega arith) le

-- a place of a piece of a list
pub at-range : (xs : List ℕ) (a n k : ℕ) → k < n → slice_index (take n (drop a xs)) k ≡ slice_index xs (a + k)
at-range xs a n k lt = get_or-take n (drop a xs) k 0 lt ∙ get_or-drop a xs k 0

-- a place of the sums, before any part is added
pub none-added : (f : ℕ → ℕ → ℕ) (rows workers p sum : ℕ) → sum ≡ 0 → sum ≡ run_sum (f p) 0 (first_row rows workers 0)
none-added f rows workers p sum is = is ∙ sym (ap (run_sum (f p) 0) (first-zero rows workers) ∙ run-none (f p) 0)

-- a place of the sums, when the part of a worker is added to those of the workers before it
pub part-added : (f : ℕ → ℕ → ℕ) (rows workers worker p size : ℕ) (xs : List ℕ) (new old : ℕ)
    → new ≡ old ⊕ slice_index (take (worker * size + size - worker * size) (drop (worker * size) xs)) p
    → old ≡ run_sum (f p) 0 (first_row rows workers worker) → slice_index (slice_chunk xs size worker) p ≡ part f rows workers worker p
    → new ≡ run_sum (f p) 0 (first_row rows workers (worker + 1))
part-added f rows workers worker p size xs new old is before here =
    let all : worker * size + size - worker * size ≡ size = omega arith in
    is ∙ ap₂ ◌⊕◌ before (ap (λ n. slice_index (take n (drop (worker * size) xs)) p) all ∙ here) ∙ next-part f rows workers worker p

-- a place of the sums, when all parts are added
pub all-added : (f : ℕ → ℕ → ℕ) (rows workers worker p sum : ℕ) → worker ≡ workers → 0 < workers
    → sum ≡ run_sum (f p) 0 (first_row rows workers worker) → sum ≡ run_sum (f p) 0 rows
all-added f rows workers worker p sum end pos is =
    is ∙ ap (run_sum (f p) 0) (ap (first_row rows workers) end ∙ first-all rows workers pos)

-- the parts of a worker and of those after it
pub joined : (P : ℕ → List ℕ → Type 0) (first workers size : ℕ) (own others : List ℕ) → length own ≡ size → P first own
    → OfParts P (first + 1) workers size others → OfParts P first workers size (own ++ others)
joined P first workers size own others e is next zero lt =
    let here : own ≡ slice_chunk (own ++ others) size 0 = sym (ap (λ n. take size (drop n (own ++ others))) (zero-mul size) ∙ take_at own others size e) in
    subst (P (first + 0)) here (subst (λ w. P w own) (let same : first ≡ first + 0 = omega arith in same) is)
joined P first workers size own others e is next (suc i) lt =
    let there : suc i * size ≡ size + i * size = grind arith in
    let same : slice_chunk others size i ≡ slice_chunk (own ++ others) size (suc i) =
    sym (ap (take size) (ap (λ n. drop n (own ++ others)) there ∙ sym (drop-drop (i * size) size (own ++ others)) ∙ ap (drop (i * size)) (drop_at own others size e))) in
    let worker : first + 1 + i ≡ first + suc i = omega arith in
    subst (P (first + suc i)) same (subst (λ w. P w (slice_chunk others size i)) worker (next i (omega (arith, lt))))

-- the part of the last worker
pub last : (P : ℕ → List ℕ → Type 0) (first workers size : ℕ) (own : List ℕ) → first + 1 ≡ workers → length own ≡ size → P first own
    → OfParts P first workers size own
last P first workers size own end e is i lt =
    let none : 0 ≡ i = omega (arith, end, lt) in
    let here : own ≡ slice_chunk own size 0 = sym (ap (λ n. take size (drop n own)) (zero-mul size) ∙ take_all size own (omega (arith, e))) in
    subst (λ w. P (first + w) (slice_chunk own size w)) none
    (subst (P (first + 0)) here (subst (λ w. P w own) (let same : first ≡ first + 0 = omega arith in same) is))
