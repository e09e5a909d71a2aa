use Rattle.std.proofs.Common.{◌≡◌, ◌∙◌, sym, ap, arith, slice_index}
use Rattle.gf256.specs.Field.{◌⊕◌}
use Rattle.gf256.proofs.Xor.{add_assoc}
use Rattle.gf256.specs.Sums.{run_sum}
use Rattle.server_product.specs.Runs.{term}
use Rattle.gf256.proofs.RunSums.{run-next}
use Rattle.server_product.proofs.sixths.add_in_sixths.Goals as goal

pub loop-j-preserved : goal.loop-j-preserved
loop-j-preserved c = λ k.
    let q = c.args.q.now in
    let rows = c.args.matrix.now.rows in
    let old = slice_index c.args.sums.now k in
    let j = c.loop-j.j in
    c.add_term.ensures k
    ∙ ap (λ s. s ⊕ term q rows k j) (c.loop-j.invariant k)
    ∙ add_assoc old (run_sum (term q rows k) c.args.from j) (term q rows k j)
    ∙ ap (◌⊕◌ old) (sym (run-next (term q rows k) c.args.from j (omega arith)))

pub returns : goal.returns
returns c = λ k.
    let end : c.loop-j.j ≡ c.args.to = omega arith in
    c.loop-j.invariant k ∙ ap (λ j. slice_index c.args.sums.now k ⊕ run_sum (term c.args.q.now c.args.matrix.now.rows k) c.args.from j) end
