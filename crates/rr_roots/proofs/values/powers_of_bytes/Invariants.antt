use Rattle.std.proofs.Common.{◌≡◌, length, map}
use Rattle.rr_roots.specs.Values.{ArePowers}
use Rattle.rr_roots.proofs.values.powers_of_bytes.Given as goal

abbrev pub invariant-loop-e : goal.invariant-loop-e
invariant-loop-e l = record {
  count : length l.rows.items ≡ l.e;
  powers : ArePowers (map (λ r. r.items) l.rows.items);
}
