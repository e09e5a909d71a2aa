use Rattle.std.proofs.Common.{◌≡◌, ◌≤◌, length, All}
use Rattle.key_table.specs.Entry.{Pair}
use Rattle.list_table_tests.proofs.tables.wide_shape.Given as goal

abbrev pub invariant-loop-last : goal.invariant-loop-last
invariant-loop-last l = (l.list.size ≡ 8) × All (λ (p : Pair). length p.value ≤ 16384) l.list.pairs
