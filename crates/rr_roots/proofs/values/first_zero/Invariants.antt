use Rattle.std.proofs.Common.{◌-◌, ◌≤◌}
use Rattle.rr_roots.specs.Values.{HaveNoZero}
use Rattle.rr_roots.proofs.values.first_zero.Given as goal

abbrev pub invariant-vectors : goal.invariant-vectors
invariant-vectors l = record { later : l.from ≤ l.place; within : l.place ≤ 256; others : HaveNoZero l.values l.from l.place }

abbrev pub decreases-vectors : goal.decreases-vectors
decreases-vectors l = 256 - l.place

abbrev pub invariant-rest : goal.invariant-rest
invariant-rest l = record { later : l.from ≤ l.place; within : l.place ≤ 256; others : HaveNoZero l.values l.from l.place }

abbrev pub decreases-rest : goal.decreases-rest
decreases-rest l = 256 - l.place
