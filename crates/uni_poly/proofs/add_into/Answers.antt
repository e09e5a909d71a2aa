use Rattle.std.proofs.Common.{length, slice_index, arith}
use Rattle.std.proofs.lemmas.List.{get_or_past, length-take}
use Rattle.gf256.specs.Polynomial.{coef}
use Rattle.gf256.proofs.Added.{added-front}
use Rattle.uni_poly.proofs.add_into.Goals as goal

pub returns : goal.returns
unfolding coef
returns c =
    let acc = c.args.acc.now in
    let p = c.args.p.now in
    let size = c.add_row.auto.acc in
    added-front c.add_row.new.acc acc (slice_index p) (length p) c.requires (omega (arith, size, c.requires, length-take (length p) acc))
    (λ k l. get_or_past p k 0 l) c.add_row.ensures
