use Rattle.std.proofs.Common.{◌≡◌}
use Rattle.gf256.specs.Field.{◌⊗◌, power}
use Rattle.gf256.specs.Sums.{sum_to}
use Rattle.gf256.specs.Polynomial.{coef}
use Rattle.program_tests.proofs.plain_blocks.value.Given as goal

abbrev pub invariant-loop-power : goal.invariant-loop-power
invariant-loop-power l = l.sum ≡ sum_to (λ e. coef l.polynomial e ⊗ power l.at e) l.power
