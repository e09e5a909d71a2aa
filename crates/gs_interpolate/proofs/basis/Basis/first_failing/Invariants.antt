use Rattle.std.proofs.Common.{◌≢◌, ℕ, ◌<◌, length, get_or}
use Rattle.gs_interpolate.specs.Basis.{LeadsBefore}
use Rattle.gs_interpolate.proofs.basis.Basis.first_failing.Given as goal

abbrev pub invariant-loop-j : goal.invariant-loop-j
invariant-loop-j l = record {
  passed : l.first < l.j;
  inside : l.first < length l.values;
  fails : get_or l.values l.first 0 ≢ 0;
  first : (k : ℕ) → k < l.j → get_or l.values k 0 ≢ 0 → k ≢ l.first → LeadsBefore l.self l.first k;
}
