use Rattle.std.proofs.Common.{arith}
use Rattle.bi_poly.proofs.Degree.{cell-past}
use Rattle.algebra_tests.proofs.roots.lines_of_two.Goals as goal

pub returns : goal.returns
returns g c = record { four = c.y_roots.ensures.most 2 (λ j i more. cell-past c.args.q.now j i (omega (arith, more, c.requires.rows))) }
