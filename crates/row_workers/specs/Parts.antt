-- Which rows each worker adds up.
use Rattle.std.specs.Prelude.{ℕ, ◌+◌, ◌*◌, ◌/◌, ◌<◌, List}
use Rattle.std.specs.Fork.{slice_chunk}
use Rattle.gf256.specs.Sums.{run_sum}

-- the first row of a worker, which is where the worker before it ends
abbrev pub first_row : ℕ → ℕ → ℕ → ℕ
first_row rows workers worker = worker * rows / workers

-- place p of what a worker adds up, where row j gives f p j to it: the sum over its rows
abbrev pub part : (ℕ → ℕ → ℕ) → ℕ → ℕ → ℕ → ℕ → ℕ
part f rows workers worker p =
    run_sum (f p) (first_row rows workers worker) (first_row rows workers (worker + 1))

-- P holds of each worker from `first` on and of its part of xs, which begins with that of the first
abbrev pub OfParts : (ℕ → List ℕ → Type 0) → ℕ → ℕ → ℕ → List ℕ → Type 0
OfParts P first workers size xs = (i : ℕ) → first + i < workers → P (first + i) (slice_chunk xs size i)

-- the task accepts each worker with a part of so many bytes
abbrev pub Accepts : (ℕ → ℕ → Type 0) → ℕ → ℕ → Type 0
Accepts P workers size = (worker : ℕ) → worker < workers → P worker size

-- it leaves each worker's part of xs as it should
abbrev pub LeavesAll : (ℕ → List ℕ → Type 0) → ℕ → ℕ → List ℕ → Type 0
LeavesAll P workers size xs =
    (worker : ℕ) → worker < workers → P worker (slice_chunk xs size worker)
