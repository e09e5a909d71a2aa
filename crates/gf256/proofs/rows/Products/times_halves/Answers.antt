use Rattle.std.proofs.Common.{◌+◌, ◌*◌, length, get_or, ap, ◌∙◌, arith}
use Rattle.std.specs.Simd.Lanes.{zip2}
use Rattle.gf256.specs.Field.{◌⊗◌}
use Rattle.gf256.proofs.Lanes.{times_halves_are}
use Rattle.gf256.proofs.rows.Products.times_halves.Goals as goal

pub look_up-of_low-requires : goal.look_up-of_low-requires
look_up-of_low-requires g c = (omega (arith, g.N.fits), (ap length c.self.invariant.0, c.requires.low))

pub look_up-of_high-requires : goal.look_up-of_high-requires
look_up-of_high-requires g c = (omega (arith, g.N.fits), (ap length c.self.invariant.1, c.requires.high))

pub returns : goal.returns
returns g c =
    times_halves_are (get_or c.self.inside.low 1 0) c.args.low c.args.high c.self.inside.low c.self.inside.high c.look_up-of_low.result c.look_up-of_high.result
    c.requires.low c.requires.high c.self.invariant.0 c.self.invariant.1 c.look_up-of_low.ensures c.look_up-of_high.ensures
    ∙ ap (λ f. zip2 (λ l h. f ⊗ (h * 16 + l)) c.args.low c.args.high) c.self.view_is
