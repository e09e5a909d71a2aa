use Rattle.gf256.proofs.Powers.{LOGARITHMS-lt, power-LOGARITHMS}
use Rattle.gf256.proofs.laws.table_of_logarithms.Goals as goal

pub returns-clause-below : goal.returns-clause-below
returns-clause-below c = LOGARITHMS-lt c.args.a c.ranges.a.fits c.requires

pub returns-clause-exponent : goal.returns-clause-exponent
returns-clause-exponent c = power-LOGARITHMS c.args.a c.ranges.a.fits c.requires
