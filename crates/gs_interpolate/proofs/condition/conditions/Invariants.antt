use Rattle.std.proofs.Common.{◌≡◌, ◌++◌, take}
use Rattle.std.specs.List.{flat_map}
use Rattle.gs_interpolate.proofs.Conditions.{of_order, below_order, at_point}
use Rattle.gs_interpolate.proofs.condition.conditions.Given as goal

abbrev pub invariant-derivatives : goal.invariant-derivatives
invariant-derivatives l = l.made.items ≡ l.initial.made.items ++ of_order l.a l.b l.order l.u

abbrev pub invariant-orders : goal.invariant-orders
invariant-orders l = l.made.items ≡ l.initial.made.items ++ below_order l.a l.b l.order

abbrev pub invariant-points : goal.invariant-points
invariant-points l = l.made.items ≡ flat_map (at_point l.m) (take l.a-index l.points)
