use Rattle.std.proofs.Common.{◌≢◌, arith}
use Rattle.gs_interpolate.proofs.Expansions.{half-IsPowerOfTwo}
use Rattle.gs_interpolate.proofs.expansion.terms_used.Goals as goal

pub halves-preserved : goal.halves-preserved
halves-preserved c =
    let more : c.halves.used ≢ 1 = omega (arith, c.halves-test.true) in
    record {
      power = half-IsPowerOfTwo c.halves.used c.halves.invariant.power more;
      few = omega (arith, c.halves.invariant.few);
      enough = λ l. c.if-len-used.true;
    }
