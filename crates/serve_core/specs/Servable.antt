-- What the fields of `Service` hold.
use Rattle.std.specs.Prelude.{◌≤◌}
use Rattle.quantity_limits.specs.declared.TheConstants.{MOST_WORKERS}
use Rattle.serve_core.specs.declared.service.Service.TheInside.{Inside}

-- the number of workers whom a server may have
pub record IsServable (s : Inside) : Type 0 where
  pub some_workers : 1 ≤ s.workers
  pub few_workers : s.workers ≤ MOST_WORKERS
