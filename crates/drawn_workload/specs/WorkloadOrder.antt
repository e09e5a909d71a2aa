-- What is to be done with a workload.
use Rattle.std.specs.Prelude.{Bool, ℕ, ◌≤◌}
use Rattle.quantity_limits.specs.declared.TheConstants.{MOST_WORKERS}
use Rattle.drawn_workload.specs.Workload.{IsWorkload}
use Rattle.drawn_workload.specs.declared.order.Workload.{Workload}

-- the workload, how many workers sum the rows, and whether the decoder takes the slower way
pub record WorkloadOrder : Type 0 where
  pub load : Workload
  pub workers : ℕ
  pub slow : Bool

-- the numbers of the workload, and of the workers, are in their ranges
abbrev pub IsRunnable : Workload → ℕ → Type 0
IsRunnable load workers = IsWorkload load × (1 ≤ workers) × (workers ≤ MOST_WORKERS)
