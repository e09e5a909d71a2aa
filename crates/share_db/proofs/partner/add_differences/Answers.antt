use Rattle.std.proofs.Common.{rules, ◌≡◌, ◌+◌, ◌/◌, ◌%◌, get_or, ap, ◌∙◌, arith}
use Rattle.std.proofs.lemmas.Option.{unwrap_or-slice_get}
use Rattle.gf256.specs.Field.{◌⊕◌, ◌⊗◌}
use Rattle.gf256.proofs.Added.{added-place}
use Rattle.gf256.specs.Polynomial.{coef}
use Rattle.share_db.specs.Partner.{difference}
use Rattle.share_db.proofs.partner.add_differences.Goals as goal

pub loop-j-preserved : goal.loop-j-preserved
unfolding difference coef ◌⊕◌
loop-j-preserved c =
    let g = difference c.args.g.now c.args.from.now c.args.to.now c.args.tau in
    let tau = c.args.tau in
    let j = c.loop-j.j in
    let is : c.unwrap_or-coefficient.result ≡ get_or c.args.g.now (j % tau + 1) 0 = search (rules, unwrap_or-slice_get) in
    added-place c.loop-j.coins c.args.coins.now g 0 c.loop-j.j c.mul.result (omega arith) (omega arith)
    (c.mul.ensures ∙ ap (λ x. x ⊗ (get_or c.args.from.now (j / tau) 0 ⊕ get_or c.args.to.now (j / tau) 0)) is) c.loop-j.invariant
