use Rattle.std.proofs.Common.{◌≡◌, ◌∙◌, length, get_or, if◌then◌else◌, sym, ap, ap₂, arith}
use Rattle.gf256.specs.Field.{◌⊕◌}
use Rattle.gf256.specs.Sums.{run_sum}
use Rattle.gf256.proofs.Xor.{add_zero}
use Rattle.gf256.proofs.RunSums.{run-all, run-none, run-next}
use Rattle.chor_xor.specs.Chosen.{chosen_at, given}
use Rattle.chor_xor.proofs.ChosenSums.{chosen-is, given-chosen, given-left}
use Rattle.block_matrix.specs.Database.{rows_of}
use Rattle.block_matrix.proofs.Rows.{IsMatrix-rows_of, length-rows_of}
use Rattle.server_calls.specs.Held.{database_of}
use Rattle.server_calls.proofs.HeldLengths.{length-row}
use Rattle.server_calls.proofs.sums.write_chosen.Goals as goal
use Rattle.server_calls.proofs.sums.write_chosen.Goals.{then-is_set, else-is_set}

pub loop-j-init : goal.loop-j-init
loop-j-init c =
    let rows = c.args.rows.now in
    record {
      sums = λ k. c.clear.ensures k ∙ sym (run-none (given c.args.bitmap.now (rows_of rows.width rows.count rows.bytes.now) k) 0);
      size = c.clear.auto.row ∙ c.requires.room;
    }

pub add_row-requires : goal.add_row-requires
add_row-requires c =
    let rows = c.args.rows.now in
    ap length c.row.ensures
    ∙ length-row rows.bytes.now rows.count rows.width c.loop-j.j c.requires.rows c.loop-j-test.true
    ∙ sym c.loop-j.invariant.size

pub loop-j-preserved : goal.loop-j-preserved
loop-j-preserved c =
    let rows = c.args.rows.now in
    let bitmap = c.args.bitmap.now in
    let all = rows_of rows.width rows.count rows.bytes.now in
    let j = c.loop-j.j in
    let matrix = IsMatrix-rows_of rows.width rows.count rows.bytes.now c.requires.rows.whole c.are_bytes.ensures in
    elim c.if-is_set.branch [
      | then-is_set w ↦
          let bit = c.is_set.ensures ∙ ap (λ t. if t then 1 else 0) w.if-is_set.true in
          record {
            sums = λ k. ap (λ xs. get_or xs k 0) w.out-is ∙ w.add_row.ensures k
                ∙ ap₂ ◌⊕◌ (c.loop-j.invariant.sums k) (given-chosen bitmap w.row.result.now all _ _ k j matrix c.loop-j-test.true bit w.row.ensures)
                ∙ sym (run-next (given bitmap all k) 0 j (omega arith));
            size = ap length w.out-is ∙ w.add_row.auto.acc ∙ c.loop-j.invariant.size;
          }
      | else-is_set w ↦
          let bit = c.is_set.ensures ∙ ap (λ t. if t then 1 else 0) w.if-is_set.false in
          record {
            sums = λ k. ap (λ xs. get_or xs k 0) w.out-is ∙ c.loop-j.invariant.sums k
                ∙ sym (run-next (given bitmap all k) 0 j (omega arith)
                ∙ ap (◌⊕◌ (run_sum (given bitmap all k) 0 j)) (given-left bitmap all k j bit) ∙ add_zero (run_sum (given bitmap all k) 0 j));
            size = ap length w.out-is ∙ c.loop-j.invariant.size;
          }
    ]

pub returns : goal.returns
unfolding chosen_at
returns c =
    let rows = c.args.rows.now in
    let all = rows_of rows.width rows.count rows.bytes.now in
    let end : c.loop-j.j ≡ length all =
    omega (arith, c.loop-j.auto.j-end, c.loop-j-test.false, length-rows_of rows.width rows.count rows.bytes.now) in
    chosen-is (database_of rows.bytes.now rows.count rows.width) c.args.bitmap.now c.loop-j.out c.loop-j.invariant.size
    (λ k. c.loop-j.invariant.sums k ∙ ap (run_sum (given c.args.bitmap.now all k) 0) end ∙ run-all (given c.args.bitmap.now all k) (length all))
