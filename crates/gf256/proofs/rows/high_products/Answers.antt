use Rattle.std.proofs.Common.{ap₂, bit_xor, ◌∙◌}
use Rattle.std.specs.Simd.Lanes.{zip2}
use Rattle.gf256.proofs.SmallTables.{high_rows}
use Rattle.gf256.proofs.rows.high_products.Goals as goal

pub returns : goal.returns
returns c = ap₂ (zip2 bit_xor) c.row_of.ensures c.row_of-2.ensures ∙ high_rows c.args.factor c.ranges.factor.fits
