use Rattle.std.proofs.Common.{◌-◌, ◌≤◌, ◌++◌, ℕ, List, replicate}
use Rattle.sha2.specs.Hashers.{Holds256}
use Rattle.key_table.proofs.tag.hash_zeros.Given as goal

-- the zeros that are not left were hashed
abbrev pub invariant-pieces : goal.invariant-pieces
invariant-pieces l = (l.left ≤ l.count) × ((m : List ℕ) → Holds256 l.initial.hasher m → Holds256 l.hasher (m ++ replicate (l.count - l.left) 0))

abbrev pub decreases-pieces : goal.decreases-pieces
decreases-pieces l = l.left
