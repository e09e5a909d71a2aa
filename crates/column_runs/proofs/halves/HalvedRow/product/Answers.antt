use Rattle.std.proofs.Common.{◌+◌, ◌*◌, length, get_or, sym, ap, ap₂, ◌∙◌, arith}
use Rattle.gf256.specs.Field.{◌⊗◌}
use Rattle.column_runs.proofs.Together.{length-together, get_or-together}
use Rattle.column_runs.proofs.halves.HalvedRow.product.Goals as goal

pub bounds-low-place : goal.bounds-low-place
bounds-low-place c =
    let size = length-together c.self.inside.low.items c.self.inside.high.items c.self.invariant.same in
    let bytes = ap length c.self.view_is in
    let low = ap length c.deref-low.ensures.value in
    omega (arith, size, bytes, low, c.requires)

pub bounds-high-place : goal.bounds-high-place
bounds-high-place c =
    let size = length-together c.self.inside.low.items c.self.inside.high.items c.self.invariant.same in
    let bytes = ap length c.self.view_is in
    let high = ap length c.deref-high.ensures.value in
    omega (arith, size, bytes, high, c.requires, c.self.invariant.same)

pub returns : goal.returns
returns c =
    let place = c.args.place in
    let lows = c.self.inside.low.items in
    let highs = c.self.inside.high.items in
    let size = length-together lows highs c.self.invariant.same in
    let bytes = ap length c.self.view_is in
    c.mul.ensures
    ∙ ap₂ (λ f x. f ⊗ x) c.factor.ensures
    (ap₂ (λ h l. get_or h place 0 * 16 + get_or l place 0) c.deref-high.ensures.value c.deref-low.ensures.value
    ∙ sym (get_or-together lows highs c.self.invariant.same place (omega (arith, size, bytes, c.requires)))
    ∙ ap (λ row. get_or row place 0) c.self.view_is)
