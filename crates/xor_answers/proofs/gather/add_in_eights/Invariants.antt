use Rattle.std.proofs.Common.{◌≡◌, ℕ, ◌+◌, ◌-◌, ◌*◌, ◌<◌, length, slice_index}
use Rattle.gf256.specs.Field.{◌⊕◌}
use Rattle.gf256.specs.Sums.{run_sum}
use Rattle.row_workers.specs.Pieces.{piece}
use Rattle.chor_xor.specs.Chosen.{given}
use Rattle.xor_answers.specs.Waiting.{waiting_at, AllAreRows}
use Rattle.xor_answers.proofs.gather.add_in_eights.Given as goal

abbrev pub invariant-loop-j : goal.invariant-loop-j
invariant-loop-j l = record {
  waiting : AllAreRows (length l.group.matrix.now.rows) l.waiting;
  sum : (v k : ℕ) → v < l.group.count → k < l.group.matrix.now.width
      → slice_index l.sums (v * l.group.matrix.now.width + k) ⊕ waiting_at l.group.matrix.now.rows l.waiting (l.group.count - 1 - v) k
      ≡ run_sum (given (piece l.size l.group.queries.now v) l.group.matrix.now.rows k) l.from l.j;
}
