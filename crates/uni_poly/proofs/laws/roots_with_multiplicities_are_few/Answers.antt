use Rattle.std.proofs.Common.{sum, arith, inl, inr}
use Rattle.std.proofs.lemmas.Bool.{cases_lt}
use Rattle.gf256.specs.Polynomial.{coef}
use Rattle.uni_poly.proofs.Multiplicity.{too_many_zeros}
use Rattle.uni_poly.proofs.Quotient.{IsZero-from_low}
use Rattle.uni_poly.proofs.Coefficients.{bytes_from_get_or}
use Rattle.uni_poly.proofs.laws.roots_with_multiplicities_are_few.Goals as goal

pub returns : goal.returns
unfolding coef
returns c =
    let p = c.args.p.now in
    let xs = c.args.roots.now in
    let ms = c.args.multiplicities.now in
    elim (cases_lt c.args.degree (sum ms)) [
      | inl l ↦
          absurd (c.requires.nonzero (IsZero-from_low p (λ e. (c.type_inv.p e).fits)
          (too_many_zeros xs ms p (bytes_from_get_or xs (λ k. (c.type_inv.roots k).fits)) c.requires.distinct c.requires.zeros
          (λ e h. c.requires.bounded e (omega arith)))))
      | inr l ↦ l
    ]
