use Rattle.std.proofs.Common.{arith}
use Rattle.server_product.proofs.SixSums.{six-lanes}
use Rattle.server_product.proofs.six_rows.six_lanes.Goals as goal

pub returns : goal.returns
returns g c =
    six-lanes c.args.six _ _ _ _ _ _ c.args.at
    c.products_at.ensures c.products_at-2.ensures c.products_at-3.ensures c.products_at-4.ensures c.products_at-5.ensures c.products_at-6.ensures

pub products_at-requires : goal.products_at-requires
products_at-requires g c = (omega (arith, g.N.fits), (c.requires.products.a, c.requires.a))

pub products_at-requires-2 : goal.products_at-requires-2
products_at-requires-2 g c = (omega (arith, g.N.fits), (c.requires.products.b, c.requires.b))

pub products_at-requires-3 : goal.products_at-requires-3
products_at-requires-3 g c = (omega (arith, g.N.fits), (c.requires.products.c, c.requires.c))

pub products_at-requires-4 : goal.products_at-requires-4
products_at-requires-4 g c = (omega (arith, g.N.fits), (c.requires.products.d, c.requires.d))

pub products_at-requires-5 : goal.products_at-requires-5
products_at-requires-5 g c = (omega (arith, g.N.fits), (c.requires.products.e, c.requires.e))

pub products_at-requires-6 : goal.products_at-requires-6
products_at-requires-6 g c = (omega (arith, g.N.fits), (c.requires.products.f, c.requires.f))
