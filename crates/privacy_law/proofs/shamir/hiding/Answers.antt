use Rattle.std.proofs.Common.{◌≡◌, ◌<◌, ap, ap₂, ◌∙◌, sym, length, map, get_or, arith}
use Rattle.std.proofs.lemmas.List.{take_at, get_or_default}
use Rattle.gf256.specs.Field.{◌⊗◌, inverse}
use Rattle.gf256.specs.Polynomial.{coef}
use Rattle.uni_poly.specs.Product.{vanishing}
use Rattle.uni_poly.proofs.Coefficients.{bytes_from_get_or}
use Rattle.uni_poly.proofs.VanishingPolynomial.{length-vanishing}
use Rattle.privacy_law.proofs.HidingPolynomial.{vanishing_first, hiding_from_vanishing}
use Rattle.privacy_law.proofs.shamir.hiding.Goals as goal

pub index-requires : goal.index-requires
index-requires c =
    let size = c.in_ok-made.made.ok.0 in
    let same = ap length c.in_ok-made.ensures in
    let long = length-vanishing c.args.coalition.now in
    omega (arith, size, same, long)

pub inv-scale-requires : goal.inv-scale-requires
unfolding coef
inv-scale-requires c zero =
    let xs = c.args.coalition.now in
    let long : 0 < length (vanishing xs) = let e = length-vanishing xs in omega (arith, e) in
    vanishing_first xs (bytes_from_get_or xs (λ k. (c.type_inv.coalition k).fits)) c.requires
    (get_or_default (vanishing xs) 0 0 c.index.result.now long ∙ ap (λ p. get_or p 0 c.index.result.now) (sym c.in_ok-made.ensures) ∙ sym c.index.ensures ∙ zero)

pub returns : goal.returns
unfolding coef
returns c =
    let xs = c.args.coalition.now in
    let first = c.index.result.now in
    let long : 0 < length (vanishing xs) = let e = length-vanishing xs in omega (arith, e) in
    let constant : first ≡ coef (vanishing xs) 0 =
    c.index.ensures ∙ ap (λ p. get_or p 0 first) c.in_ok-made.ensures ∙ get_or_default (vanishing xs) 0 first 0 long in
    take_at c.multiply.new.p _ c.in_ok-made.made.len (c.multiply.auto.p ∙ c.deref_mut.ensures.len)
    ∙ c.multiply.ensures
    ∙ ap₂ (λ k p. map (◌⊗◌ k) p) (c.inv-scale.ensures.inverse ∙ ap inverse constant) (c.deref_mut.ensures.value ∙ c.in_ok-made.ensures)
    ∙ sym (hiding_from_vanishing xs (bytes_from_get_or xs (λ k. (c.type_inv.coalition k).fits)) c.requires)
