use Rattle.std.proofs.Common.{◌≡◌, ◌*◌, ◌/◌, get_or, ap, ◌∙◌, arith, refl}
use Rattle.std.specs.Simd.Lanes.{chunk}
use Rattle.std.proofs.lemmas.Simd.{get_or-chunk}
use Rattle.shamir_share.proofs.Swizzled.{places_ok, swizzled}
use Rattle.shamir_share.proofs.sixteens.VectorsSixteens16.sorted_at.Goals as goal

pub swizzle : goal.swizzle
swizzle c =
    let places = c.args.places in
    places_ok 16 places places c.requires.length (λ k l. ap (λ i. get_or places i 0) (omega (arith, l))) c.requires.places 1 refl

pub returns : goal.returns
returns c =
    let places = c.args.places in
    let rows = c.args.rows.now in
    let at = c.args.at in
    swizzled 16 places places c.requires.length (λ k l. ap (λ i. get_or places i 0) (omega (arith, l))) c.requires.places (chunk at 16 rows) rows at c.args.apart
    (λ k p l m.
    let none : k / 16 ≡ 0 = omega (arith, l) in
    ap (λ i. get_or (chunk at 16 rows) i 0) (omega (arith, none)) ∙ get_or-chunk at 16 rows p 0 m
    ∙ ap (λ i. get_or rows i 0) (omega (arith, ap (λ q. q * c.args.apart) none)))
