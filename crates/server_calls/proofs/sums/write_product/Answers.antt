use Rattle.std.proofs.Common.{◌≡◌, ◌∙◌, ℕ, List, length, get_or, slice_index, sym, ap, arith}
use Rattle.gf256.specs.Field.{◌⊕◌, ◌⊗◌}
use Rattle.gf256.specs.Sums.{sum_to}
use Rattle.gf256.specs.Product.{product_at}
use Rattle.server_product.specs.Runs.{term}
use Rattle.server_product.proofs.RunSums.{product-is, term-next}
use Rattle.block_matrix.specs.Database.{rows_of}
use Rattle.block_matrix.proofs.Rows.{length-rows_of}
use Rattle.server_calls.proofs.HeldLengths.{length-row}
use Rattle.server_calls.proofs.sums.write_product.Goals as goal

pub loop-j-init : goal.loop-j-init
unfolding sum_to
loop-j-init c = record { sums = c.clear.ensures; size = c.clear.auto.row ∙ c.requires.room }

pub mul_add_row-requires : goal.mul_add_row-requires
mul_add_row-requires c =
    let rows = c.args.rows.now in
    ap length c.row.ensures
    ∙ length-row rows.bytes.now rows.count rows.width c.loop-j.j c.requires.rows (omega (arith, c.loop-j-test.true, c.requires.vector))
    ∙ sym c.loop-j.invariant.size

pub loop-j-preserved : goal.loop-j-preserved
loop-j-preserved c =
    let rows = c.args.rows.now in
    let all = rows_of rows.width rows.count rows.bytes.now in
    record {
      sums = λ k. term-next c.args.vector.now all k c.loop-j.j (get_or c.loop-j.out k 0) (get_or c.mul_add_row.new.acc k 0) (c.loop-j.invariant.sums k)
          (c.mul_add_row.ensures k
          ∙ ap (λ (row : List ℕ). get_or c.loop-j.out k 0 ⊕ slice_index c.args.vector.now c.loop-j.j ⊗ slice_index row k) c.row.ensures);
      size = c.mul_add_row.auto.acc ∙ c.loop-j.invariant.size;
    }

pub returns : goal.returns
unfolding product_at term
returns c =
    let rows = c.args.rows.now in
    let all = rows_of rows.width rows.count rows.bytes.now in
    let end : c.loop-j.j ≡ length all =
    omega (arith, c.loop-j.auto.j-end, c.loop-j-test.false, c.requires.vector, length-rows_of rows.width rows.count rows.bytes.now) in
    product-is c.args.vector.now c.loop-j.out all rows.width c.loop-j.invariant.size
    (λ k l. c.loop-j.invariant.sums k ∙ ap (sum_to (term c.args.vector.now all k)) end)
