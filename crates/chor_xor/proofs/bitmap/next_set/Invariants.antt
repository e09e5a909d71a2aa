use Rattle.std.proofs.Common.{◌*◌, ◌-◌, ◌<◌}
use Rattle.chor_xor.proofs.NextBits.{IsRest}
use Rattle.chor_xor.proofs.bitmap.next_set.Given as goal

abbrev pub invariant-bytes : goal.invariant-bytes
invariant-bytes l = record {
  within : 8 * l.byte < l.to;
  small : l.rest < 256;
  rest : IsRest l.bitmap l.from l.byte l.rest;
}

abbrev pub decreases-bytes : goal.decreases-bytes
decreases-bytes l = l.to - l.byte
