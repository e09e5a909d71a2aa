use Rattle.std.proofs.Common.{◌≡◌, ◌*◌, ◌+◌, ◌/◌, get_or, ap, arith, w8, refl}
use Rattle.std.proofs.lemmas.Simd.{SwzOk-from_below}
use Rattle.gf256.proofs.Lanes.{looked_up}
use Rattle.gf256.proofs.vectors.VectorsLookUp16.look_up.Goals as goal

pub swizzle : goal.swizzle
swizzle c = let long = c.fits-places.0 in SwzOk-from_below w8 16 1 16 0 c.args.places refl (omega arith) c.requires.places

pub returns : goal.returns
returns c =
    let long = c.fits-places.0 in
    looked_up c.args.table (λ j. get_or c.args.table j 0) 16 0 c.args.places (omega arith) c.requires.places
    (λ m j l k. ap (λ p. get_or c.args.table p 0) (let e : 16 * (m / 16) + j ≡ j = omega arith in e))
