use Rattle.std.proofs.Common.{length, get_or, sym, ap, ap₂, ◌∙◌, arith}
use Rattle.column_runs.specs.Halves.{together}
use Rattle.column_runs.proofs.DifferenceRows.{items-with}
use Rattle.column_runs.proofs.Together.{length-together, get_or-together}
use Rattle.column_runs.proofs.halves.HalvedRow.set_difference.Goals as goal

pub part_difference-requires-clause-room : goal.part_difference-requires-clause-room
part_difference-requires-clause-room c =
    let size = length-together c.self.inside.low.items c.self.inside.high.items c.self.invariant.same in
    let bytes = ap length c.self.view_is in
    let low = ap length c.deref_mut.ensures.value in
    omega (arith, size, bytes, low, c.requires.room)

pub returns-clause-size : goal.returns-clause-size
returns-clause-size c =
    let low = c.self.inside.low in
    let high = c.self.inside.high in
    let lows = c.part_difference.new.low in
    let highs = c.part_difference.new.high in
    let size_low = c.part_difference.auto.low ∙ ap length c.deref_mut.ensures.value in
    let size_high = c.part_difference.auto.high ∙ ap length c.deref_mut-2.ensures.value in
    let same = size_low ∙ c.self.invariant.same ∙ sym size_high in
    ap₂ (λ l h. length (together l h)) (items-with low lows size_low) (items-with high highs size_high)
    ∙ length-together lows highs same ∙ size_low
    ∙ sym (length-together low.items high.items c.self.invariant.same) ∙ ap length c.self.view_is

pub returns-clause-each : goal.returns-clause-each
returns-clause-each c = λ k l.
    let low = c.self.inside.low in
    let high = c.self.inside.high in
    let lows = c.part_difference.new.low in
    let highs = c.part_difference.new.high in
    let size_low = c.part_difference.auto.low ∙ ap length c.deref_mut.ensures.value in
    let size_high = c.part_difference.auto.high ∙ ap length c.deref_mut-2.ensures.value in
    let same = size_low ∙ c.self.invariant.same ∙ sym size_high in
    let size = length-together low.items high.items c.self.invariant.same ∙ sym size_low in
    let bytes = ap length c.self.view_is in
    ap₂ (λ l h. get_or (together l h) k 0) (items-with low lows size_low) (items-with high highs size_high)
    ∙ get_or-together lows highs same k (omega (arith, l, c.requires.room, size, bytes))
    ∙ c.part_difference.ensures.each k (omega (arith, l))
