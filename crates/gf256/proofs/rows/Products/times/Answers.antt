use Rattle.std.proofs.Common.{w8, ◌∙◌, arith}
use Rattle.std.proofs.lemmas.Simd.{below_from_Fits, shifts_fit_splat}
use Rattle.gf256.proofs.Lanes.{low_places, high_places, times_are}
use Rattle.gf256.proofs.rows.Products.times.Goals as goal

pub times_halves-requires : goal.times_halves-requires
times_halves-requires g c = (
  omega (arith, g.N.fits),
  (low_places c.args.bytes g.row.N c.fits-bytes.0, high_places c.args.bytes g.row.N c.fits-bytes.0 (below_from_Fits w8 c.args.bytes c.fits-bytes.1)),
)

pub overflow_shr-bytes : goal.overflow_shr-bytes
overflow_shr-bytes g c = shifts_fit_splat 8 c.args.bytes g.row.N 4 (omega arith)

pub returns : goal.returns
returns g c = c.times_halves.ensures ∙ times_are c.args.self.now g.row.N c.args.bytes c.fits-bytes.0
