use Rattle.std.proofs.Common.{◌≡◌, ℕ, slice_index}
use Rattle.gf256.specs.Field.{◌⊕◌}
use Rattle.gf256.specs.Sums.{run_sum}
use Rattle.chor_xor.specs.Chosen.{given}
use Rattle.chor_xor.proofs.answer.add_rows.Given as goal

abbrev pub invariant-loop-j : goal.invariant-loop-j
invariant-loop-j l = (k : ℕ) → slice_index l.sum k ≡ slice_index l.initial.sum k ⊕ run_sum (given l.bitmap l.matrix.rows k) l.from l.j
