use Rattle.std.proofs.Common.{◌≡◌, take}
use Rattle.key_table.specs.Numbered.{pairs_at}
use Rattle.key_table.proofs.Gathered.{as_held}
use Rattle.key_table.proofs.pairs.Pairs.copied.Given as goal

-- the pairs at the places before i were copied
abbrev pub invariant-loop-i : goal.invariant-loop-i
invariant-loop-i l = l.copy ≡ as_held l.self.size (take l.i (pairs_at l.self.pairs l.places))
