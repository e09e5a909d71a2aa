use Rattle.std.proofs.Common.{◌+◌, arith, refl}
use Rattle.std.specs.Simd.Lanes.{chunk}
use Rattle.shamir_share.proofs.Swizzled.{places_ok, swizzled, twice, length-twice, twice_at, both, both_at}
use Rattle.shamir_share.proofs.sixteens.VectorsSixteens32.sorted_at.Goals as goal

pub swizzle : goal.swizzle
swizzle c =
    let places = c.args.places in
    places_ok 32 (twice places) places (length-twice places) (twice_at places c.requires.length) c.requires.places 2 refl

pub returns : goal.returns
returns c =
    let places = c.args.places in
    let rows = c.args.rows.now in
    let at = c.args.at in
    let apart = c.args.apart in
    swizzled 32 (twice places) places (length-twice places) (twice_at places c.requires.length) c.requires.places
    (both (chunk at 16 rows) (chunk (at + apart) 16 rows)) rows at apart
    (λ k p l m. both_at rows at apart k p (omega (arith, c.requires.within)) l m)
