use Rattle.std.proofs.Common.{length, sym, ap, ap₂, subst, ◌∙◌, arith}
use Rattle.gf256.specs.Rows.{multiple, AreLanes}
use Rattle.column_runs.specs.Halves.{together, AreHalves}
use Rattle.column_runs.proofs.Together.{length-together}
use Rattle.column_runs.proofs.halves.HalvedRow.products.Goals as goal

pub products_of_halves-requires : goal.products_of_halves-requires
products_of_halves-requires g c =
    let low = c.deref.ensures.value in
    let high = c.deref-2.ensures.value in
    let size = length-together c.self.inside.low.items c.self.inside.high.items c.self.invariant.same in
    let bytes = ap length c.self.view_is in
    let lows = ap length low in (
      omega (arith, g.N.fits),
      (
        subst (λ h. AreHalves c.deref.result.now h) (sym high) (subst (λ l. AreHalves l c.self.inside.high.items) (sym low) c.self.invariant),
        omega (arith, size, bytes, lows, c.requires),
      ),
    )

pub returns : goal.returns
returns g c =
    subst (λ row. AreLanes g.row.N c.products_of_halves.result (multiple row c.args.factor.now) c.args.at)
    (ap₂ together c.deref.ensures.value c.deref-2.ensures.value ∙ c.self.view_is) c.products_of_halves.ensures
