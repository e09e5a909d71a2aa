use Rattle.std.proofs.Common.{rules, ◌≡◌, fold, reverse, ◌∙◌}
use Rattle.gf256.specs.Field.{◌⊕◌, ◌⊗◌}
use Rattle.gf256.specs.Polynomial.{coef}
use Rattle.uni_poly.proofs.Values.{horner}
use Rattle.uni_poly.proofs.eval.Goals as goal

pub returns : goal.returns
unfolding coef
returns c =
    let folded : c.fold.result ≡ fold (λ value x. value ⊗ c.args.a ⊕ x) 0 (reverse c.args.p.now) = search rules in
    folded ∙ horner c.args.p.now c.args.a (λ e. (c.type_inv.p e).fits)
