use Rattle.std.proofs.Common.{◌≡◌, ◌*◌, length}
use Rattle.bench.proofs.share.measure_shares.Given as goal

abbrev pub invariant-loop : goal.invariant-loop
invariant-loop g l = (length l.bytes.items ≡ l.positions) × (length l.coins.items ≡ l.positions * l.tau) × (length l.out.items ≡ l.positions)
