use Rattle.std.proofs.Common.{◌∙◌, sym, ap, ap₂, slice_index}
use Rattle.gf256.specs.Field.{◌⊕◌}
use Rattle.gf256.proofs.Xor.{add_zero}
use Rattle.server_product.specs.Gathered.{held_sum, three_sum}
use Rattle.server_product.proofs.Gathering.{plus-none}
use Rattle.server_product.proofs.gather.hold.Goals as goal

pub returns-in-None-clause-sum : goal.returns-in-None-clause-sum
unfolding held_sum
returns-in-None-clause-sum c = λ k.
    let q = c.args.q.now in
    let rows = c.args.matrix.now.rows in
    let x = slice_index c.args.sums.now k in
    let s = three_sum q rows k c.args.three in
    plus-none x s ∙ sym (ap (λ held. x ⊕ held_sum q rows k held ⊕ s) c.in-None.is)

pub returns-in-Some-clause-sum : goal.returns-in-Some-clause-sum
unfolding held_sum
returns-in-Some-clause-sum c = λ k.
    let q = c.args.q.now in
    let rows = c.args.matrix.now.rows in
    let x = slice_index c.args.sums.now k in
    let s = three_sum q rows k c.args.three in
    add_zero _ ∙ c.add_two_trios.ensures k
    ∙ ap₂ (λ y z. x ⊕ y ⊕ z) (c.trio_of.ensures.sum k) (c.trio_of-in-Some.ensures.sum k)
    ∙ sym (ap (λ held. x ⊕ held_sum q rows k held ⊕ s) c.in-Some.is)
