use Rattle.std.proofs.Common.{◌≡◌, ◌∙◌, if◌then◌else◌, get_or, ap, ap₂, sym, arith}
use Rattle.gf256.specs.Field.{◌⊕◌}
use Rattle.gf256.proofs.Xor.{add_zero, add_assoc}
use Rattle.gf256.specs.Sums.{run_sum}
use Rattle.chor_xor.specs.Chosen.{given}
use Rattle.chor_xor.proofs.ChosenSums.{given-chosen, given-left}
use Rattle.gf256.proofs.RunSums.{run-none, run-next}
use Rattle.chor_xor.proofs.answer.add_rows.Goals as goal
use Rattle.chor_xor.proofs.answer.add_rows.Goals.{then-is_set, else-is_set}

pub loop-j-init : goal.loop-j-init
loop-j-init c = λ k.
    let sum = get_or c.args.sum.now k 0 in
    sym (ap (◌⊕◌ sum) (run-none (given c.args.bitmap.now c.args.matrix.now.rows k) c.args.from) ∙ add_zero sum)

pub loop-j-preserved : goal.loop-j-preserved
loop-j-preserved c = λ k.
    let bitmap = c.args.bitmap.now in
    let rows = c.args.matrix.now.rows in
    let from = c.args.from in
    let j = c.loop-j.j in
    let old = get_or c.args.sum.now k 0 in
    let sum = run_sum (given bitmap rows k) from j in
    elim c.if-is_set.branch [
      | then-is_set w ↦
          let bit = c.is_set.ensures ∙ ap (λ t. if t then 1 else 0) w.if-is_set.true in
          ap (λ xs. get_or xs k 0) w.sum-is ∙ w.add_row.ensures k
          ∙ ap₂ ◌⊕◌ (c.loop-j.invariant k) (given-chosen bitmap w.row.result.now rows _ _ k j c.rows-rows.ensures.matrix (omega arith) bit w.row.ensures.is)
          ∙ add_assoc old sum (given bitmap rows k j)
          ∙ ap (◌⊕◌ old) (sym (run-next (given bitmap rows k) from j (omega arith)))
      | else-is_set w ↦
          let bit = c.is_set.ensures ∙ ap (λ t. if t then 1 else 0) w.if-is_set.false in
          ap (λ xs. get_or xs k 0) w.sum-is ∙ c.loop-j.invariant k
          ∙ ap (◌⊕◌ old) (sym (run-next (given bitmap rows k) from j (omega arith) ∙ ap (◌⊕◌ sum) (given-left bitmap rows k j bit) ∙ add_zero sum))
    ]

pub returns : goal.returns
returns c = λ k.
    let end : c.loop-j.j ≡ c.args.to = omega arith in
    c.loop-j.invariant k
    ∙ ap (λ j. get_or c.args.sum.now k 0 ⊕ run_sum (given c.args.bitmap.now c.args.matrix.now.rows k) c.args.from j) end
