use Rattle.std.proofs.Common.{◌≡◌, List, length, All}
use Rattle.std.specs.List.{flat_map}
use Rattle.key_table.specs.Entry.{Pair, IsPair, entry}
use Rattle.key_table.proofs.Rests.{Sought}
use Rattle.key_table.proofs.row.value_for.Given as goal

-- the digest stands in the bytes with the values that it stands with in those that are left
abbrev pub invariant-entries : goal.invariant-entries
invariant-entries l = (pairs : List Pair) → All (IsPair l.size l.most) pairs → l.bytes ≡ flat_map (entry l.most) pairs
    → Sought l.size l.most l.digest l.rest pairs

abbrev pub decreases-entries : goal.decreases-entries
decreases-entries l = length l.rest
