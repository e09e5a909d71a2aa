use Rattle.std.proofs.Common.{arith}
use Rattle.list_catalog.proofs.read.servers_of.Goals as goal

pub overflow_cast-degree : goal.overflow_cast-degree
overflow_cast-degree c = omega (arith, c.in_ok-degree.ensures.range)

pub overflow_cast-agree : goal.overflow_cast-agree
overflow_cast-agree c = omega (arith, c.in_ok-agree.ensures.range)
